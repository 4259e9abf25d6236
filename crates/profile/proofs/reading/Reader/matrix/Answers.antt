use Rattle.std.proofs.Common.{◌≡◌, ◌∙◌, ℤ, to_z, of_z, w32, SFits, rules}
use Rattle.std.proofs.Math.Facts.{to_z-of_z}
use Rattle.profile.proofs.reading.Reader.matrix.Goals as goal

-- a signed number that fits is stored as it is
stored : (r z : ℤ) → SFits w32 r → r ≡ z → to_z w32 (of_z w32 r) ≡ z
stored r z fits is = to_z-of_z fits ∙ is

pub returns : goal.returns
returns c =
    rw (stored c.coefficient.result _ (search rules) c.coefficient.ensures, stored c.coefficient-2.result _ (search rules) c.coefficient-2.ensures, stored c.coefficient-3.result _ (search rules) c.coefficient-3.ensures, stored c.coefficient-4.result _ (search rules) c.coefficient-4.ensures, stored c.coefficient-5.result _ (search rules) c.coefficient-5.ensures, stored c.coefficient-6.result _ (search rules) c.coefficient-6.ensures, stored c.coefficient-7.result _ (search rules) c.coefficient-7.ensures, stored c.coefficient-8.result _ (search rules) c.coefficient-8.ensures, stored c.coefficient-9.result _ (search rules) c.coefficient-9.ensures) at c.new.ensures
