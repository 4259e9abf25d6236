-- Bytes put down one after the other. Assumes nothing.
use Rattle.std.proofs.Common.{◌≡◌, ℕ, zero, suc, ◌+◌, ◌*◌, ◌/◌, ◌%◌, ◌≤◌, ◌<◌, List, [], ◌∷◌, ◌++◌, length, take, drop, get_or, sym, refl, ap, ◌∙◌, add-one, add-zero, arith}
use Rattle.std.proofs.lemmas.List.{append-nil, length-append, length-take-le, take-append-drop, take_more}
use Rattle.std.proofs.lemmas.List.Edits.{paste_all, paste-paste, length-paste}
use Rattle.std.proofs.lemmas.Slice.{put_mid-paste}
use Rattle.std.proofs.Math.Seq.{paste}
use borrow.Rule.Slice.PartMut.{put_mid}
use Rattle.meaning.specs.declared.Channels.{Channels}
use Rattle.link.specs.Written.{head_bytes, straight_tables, two_bytes_each, put_over}

-- ---- lengths

pub length_head : (i o : Channels) (g : ℕ) → length (head_bytes i o g) ≡ 52
unfolding head_bytes
length_head i o g = refl

pub length_straight : (n : ℕ) → length (straight_tables n) ≡ 4 * n
unfolding straight_tables
length_straight zero = refl
length_straight (suc n) = let e = length_straight n in omega arith

pub length_pairs : (nodes : List ℕ) → length (two_bytes_each nodes) ≡ 2 * length nodes
unfolding two_bytes_each
length_pairs [] = refl
length_pairs (v ∷ vs) = let e = length_pairs vs in omega arith

pub length_pairs_taken : (nodes : List ℕ) (k : ℕ) → k ≤ length nodes → length (two_bytes_each (take k nodes)) ≡ 2 * k
length_pairs_taken nodes k h = omega (arith, length_pairs (take k nodes), length-take-le k nodes h)

-- ---- one more table, and one more number

straight_apart : (n : ℕ) (rest : List ℕ) → straight_tables n ++ (0 ∷ 0 ∷ 255 ∷ 255 ∷ rest) ≡ 0 ∷ 0 ∷ 255 ∷ 255 ∷ (straight_tables n ++ rest)
unfolding straight_tables
straight_apart zero rest = refl
straight_apart (suc n) rest = rw (straight_apart n rest) refl

pub straight_more : (n : ℕ) → straight_tables (n + 1) ≡ straight_tables n ++ (0 ∷ 0 ∷ 255 ∷ 255 ∷ [])
unfolding straight_tables
straight_more n = rw (add-one n, straight_apart n [], append-nil (straight_tables n)) refl

pub pairs_append : (a b : List ℕ) → two_bytes_each (a ++ b) ≡ two_bytes_each a ++ two_bytes_each b
unfolding two_bytes_each
pairs_append [] b = refl
pairs_append (v ∷ vs) b = rw (pairs_append vs b) refl

pub pairs_more : (nodes : List ℕ) (k : ℕ) → k < length nodes → two_bytes_each (take (k + 1) nodes) ≡ two_bytes_each (take k nodes) ++ (get_or nodes k 0 / 256 ∷ get_or nodes k 0 % 256 ∷ [])
unfolding two_bytes_each
pairs_more nodes k h = rw (take_more nodes k 0 h, pairs_append (take k nodes) (get_or nodes k 0 ∷ [])) refl

-- ---- what is put down

over : (old : List ℕ) (at : ℕ) (bytes : List ℕ) → put_over old at bytes ≡ paste old at bytes (length bytes)
unfolding put_over
over old at bytes = sym (paste_all old at bytes (length bytes) refl)

-- a write to a part of the list
pub over_part : (at size : ℕ) (old part bytes : List ℕ) → part ≡ bytes → size ≡ length bytes → put_mid at size old part ≡ put_over old at bytes
over_part at size old part bytes e l = put_mid-paste at size old part bytes (length bytes) e (sym l) refl ∙ sym (over old at bytes)

pub put_nothing : (old : List ℕ) (at : ℕ) → put_over old at [] ≡ old
unfolding put_over
put_nothing old at = rw (add-zero at) (take-append-drop at old)

-- two puts side by side are one
pub put_more : (old : List ℕ) (at next : ℕ) (first second : List ℕ) → next ≡ at + length first → at ≤ length old → put_over (put_over old at first) next second ≡ put_over old at (first ++ second)
put_more old at next first second n h =
    rw (n, over (put_over old at first) (at + length first) second, over old at first, over old at (first ++ second), length-append first second)
    (paste-paste old at first second (length first) (length second) refl refl h)

pub length_put : (old : List ℕ) (at : ℕ) (bytes : List ℕ) → at + length bytes ≤ length old → length (put_over old at bytes) ≡ length old
length_put old at bytes h = rw (over old at bytes) (length-paste old at bytes (length bytes) h (omega arith))

-- at the front
pub put_first : (old bytes : List ℕ) → put_over old 0 bytes ≡ bytes ++ drop (length bytes) old
unfolding put_over
put_first old bytes = ap (λ n. bytes ++ drop n old) (omega arith)

-- ---- where the loops begin

pub straight_none : straight_tables 0 ≡ []
unfolding straight_tables
straight_none = refl

pub pairs_none : two_bytes_each [] ≡ []
unfolding two_bytes_each
pairs_none = refl

-- what the loops of the writing use
pub ruleset straight_steps = (put_nothing, put_more, straight_none, straight_more, length_straight, length_put)

pub ruleset node_steps = (put_nothing, put_more, pairs_none, pairs_more, length_pairs_taken, length_put)

-- what the writing of the whole uses
pub ruleset element_steps = (put_first, put_more, length_head, length_straight, length_pairs, length-append, length_put)
