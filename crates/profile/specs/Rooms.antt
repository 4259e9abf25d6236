-- How many slots a chain takes for the elements of its profiles: none for the first, which stands apart, and one for each other.
use Rattle.std.specs.Prelude.{ℕ, ◌+◌, ◌-◌}

-- the slots for so many profiles
abbrev pub slots_for : ℕ → ℕ
slots_for profiles = profiles - 1

-- the profiles for which so many slots are room
abbrev pub profiles_in : ℕ → ℕ
profiles_in slots = 1 + slots
