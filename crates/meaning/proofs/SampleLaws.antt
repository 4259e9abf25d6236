-- Both widths of samples keep the laws. Assumes nothing.
use Rattle.std.proofs.Common.{arith}
use Rattle.meaning.specs.Samples.{LawfulWidth, eight_bits, sixteen_bits}

pub eight_bits_lawful : LawfulWidth eight_bits
eight_bits_lawful = record { error_limit = omega arith; close = λ c h. omega arith; back = λ v. omega arith }

pub sixteen_bits_lawful : LawfulWidth sixteen_bits
sixteen_bits_lawful = record { error_limit = omega arith; close = λ c h. omega arith; back = λ v. omega arith }
