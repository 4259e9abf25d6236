-- Each channel's count stands where the definition has it.
use Rattle.std.proofs.Common.{refl}
use Rattle.meaning.specs.Colours.{spread}
use Rattle.link.proofs.filling.node_colour.Goals as goal

pub returns-in-One : goal.returns-in-One
unfolding spread
returns-in-One c = rw (c.in-One.is, c.count.ensures) refl

pub returns-in-Three : goal.returns-in-Three
unfolding spread
returns-in-Three c = rw (c.in-Three.is, c.count-in-Three.ensures, c.count-in-Three-2.ensures, c.count-in-Three-3.ensures) refl

pub returns-in-Four : goal.returns-in-Four
unfolding spread
returns-in-Four c = rw (c.in-Four.is, c.count-in-Four.ensures, c.count-in-Four-2.ensures, c.count-in-Four-3.ensures, c.count-in-Four-4.ensures) refl
