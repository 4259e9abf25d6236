-- Gray, RGB and CMYK keep the laws over any width that keeps its own, and so do the four kinds that programs use. `meaning`
-- shows it once for all kinds; each kind has its own name here. No tactic stands here: the kinds cite these as their `lawful`, and
-- a contract may cite no proofs/ of its own crate. Assumes nothing.
use Rattle.std.specs.Prelude.{refl}
use Rattle.meaning.specs.declared.Channels.TheVariants.{One, Three, Four}
use Rattle.meaning.specs.Kinds.{LawfulKind}
use Rattle.meaning.specs.Samples.{Width, LawfulWidth}
use Rattle.meaning.proofs.KindLaws.{stored_lawful}
use Rattle.meaning.proofs.SampleLaws.{eight_bits_lawful, sixteen_bits_lawful}
use Rattle.link.specs.Pixels.{gray, rgb, cmyk, gray8, rgb8, cmyk8, rgb16}
use Rattle.link.specs.Pixels.{gray_samples, gray_of, rgb_samples, rgb_of, cmyk_samples, cmyk_of}

-- what the width keeps, each kind over it keeps
pub gray_lawful : {S : Type 0} {w : Width S} → LawfulWidth w → LawfulKind (gray w)
gray_lawful {S} {w} laws = stored_lawful One w gray_samples gray_of laws (λ _. refl) (λ _. refl)

pub rgb_lawful : {S : Type 0} {w : Width S} → LawfulWidth w → LawfulKind (rgb w)
rgb_lawful {S} {w} laws = stored_lawful Three w rgb_samples rgb_of laws (λ _. refl) (λ _. refl)

pub cmyk_lawful : {S : Type 0} {w : Width S} → LawfulWidth w → LawfulKind (cmyk w)
cmyk_lawful {S} {w} laws = stored_lawful Four w cmyk_samples cmyk_of laws (λ _. refl) (λ _. refl)

-- the four that programs use
pub gray8_lawful : LawfulKind gray8
gray8_lawful = gray_lawful eight_bits_lawful

pub rgb8_lawful : LawfulKind rgb8
rgb8_lawful = rgb_lawful eight_bits_lawful

pub cmyk8_lawful : LawfulKind cmyk8
cmyk8_lawful = cmyk_lawful eight_bits_lawful

pub rgb16_lawful : LawfulKind rgb16
rgb16_lawful = rgb_lawful sixteen_bits_lawful
