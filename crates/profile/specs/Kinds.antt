-- The two types of element that can be opened.
use Rattle.std.specs.Prelude.{ℕ, cond, Some, None, Option, ◌==◌}
use Rattle.profile.specs.declared.element.Kind.{Kind}
use Rattle.profile.specs.declared.element.Kind.TheVariants.{Lut8, Lut16}

-- the type with a signature: the letters mft1 for a lut8, mft2 for a lut16
abbrev pub kind_of : ℕ → Option Kind
kind_of w = cond (w == 0x6d667431) (Some Lut8) (cond (w == 0x6d667432) (Some Lut16) None)

-- where in an element its tables begin
abbrev pub head : Kind → ℕ
head Lut8 = 48
head Lut16 = 52

-- the bytes of an entry
abbrev pub width : Kind → ℕ
width Lut8 = 1
width Lut16 = 2
