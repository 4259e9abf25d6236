-- An opened element and its tables lie in the file where they should, since the checks say so. Assumes nothing.
use Rattle.std.proofs.Common.{◌≡◌, ℕ, ◌+◌, ◌-◌, ◌<◌, ◌≤◌, List, length, take, drop, get_or, slice_index, true, Option, Some, None, Result, Ok, Err, IfOk, leb, ◌==◌, ◌&&◌, false, Bool, add-zero, zero-add, refl, sym, ap, subst, ◌∙◌, arith, rules}
use Rattle.std.specs.List.{position_or_len, slice_get}
use Rattle.std.specs.Option.{is_some, unwrap_or}
use Rattle.std.proofs.lemmas.Bool.{leb-true, eqb-true, eqb-false}
use Rattle.std.proofs.lemmas.List.{length-take, length-drop, drop-take, drop-drop, take-take, get_or-take, get_or-drop}
use Rattle.std.proofs.lemmas.List.Folds.{find_at}
use Rattle.std.proofs.lemmas.List.FromFn.{length-map-range_with_len, get_or-map-range_with_len}
use Rattle.std.proofs.lemmas.List.Sums.{fails_before_first, passes_at_first}
use Rattle.std.proofs.lemmas.Option.{get_or_from_slice_get, slice_get_within}
use Rattle.profile.specs.declared.element.Kind.{Kind}
use Rattle.profile.specs.declared.element.Kind.TheVariants.{Lut8}
use Rattle.profile.specs.declared.fault.Fault.{Fault}
use Rattle.profile.specs.declared.fault.Fault.TheVariants.{Length}
use Rattle.profile.specs.declared.opening.Opened.{Opened}
use Rattle.profile.specs.declared.tag.Tag.{Tag}
use Rattle.profile.specs.Checks.{Passing}
use Rattle.profile.specs.Bytes.{word}
use Rattle.profile.specs.Directories.{records, records_end, record_at, record_places, record_place, first_record, offset, size, FirstWith}
use Rattle.profile.specs.Elements.{input_size, nodes_start, nodes_size, output_start, output_size, tables_end, stretch}
use Rattle.profile.specs.Kinds.{head, kind_of}
use Rattle.profile.specs.Opening.{checks, element_bytes, opening, opened, viewed, opening_view, takes, gives}
use Rattle.profile.specs.Parts.{PartOf, TablesOf, LiesAt, TakenFrom}
use Rattle.profile.specs.Shapes.{shape}
use Rattle.profile.specs.Spaces.{channels_of}
use Rattle.profile.specs.Tags.{signature}
use Rattle.profile.specs.Views.{element_view}
use Rattle.profile.proofs.CheckLaws.{passed, all_pass}

-- a stretch of an element that lies in the file is a stretch of the file
part : (b : List ℕ) (o n f s : ℕ) → o + n ≤ length b → f + s ≤ length (take n (drop o b)) → PartOf b s (stretch (take n (drop o b)) o f s)
part b o n f s inside fits =
    let long = length-take n (drop o b) in
    let behind = length-drop o b in
    let l : f + s ≤ n = omega (arith, long, behind, fits) in
    let m : n ≡ f + (n - f) = omega (arith, l) in
    record {
      inside = omega (arith, l, inside);
      bytes = ap (λ k. take s (drop f (take k (drop o b)))) m ∙ ap (take s) (drop-take f (n - f) (drop o b) ∙ ap (take (n - f)) (drop-drop f o b)) ∙ take-take s (n - f) (drop (o + f) b) (omega (arith, l));
    }

and-right : (a b : Bool) → a && b ≡ true → b ≡ true
and-right true b h = h
and-right false b h = search rules

module _ (b : List ℕ) (t : Tag) (all : Passing (checks b t)) where
  in_file : offset b (signature t) + size b (signature t) ≤ length b
  in_file = leb-true _ _ (and-right (leb (records_end b) (offset b (signature t))) (leb (offset b (signature t) + size b (signature t)) (length b)) (all 6 (true, Length) (omega arith)))

  in_element : tables_end (shape (element_bytes b (signature t)) (channels_of (takes b t)) (channels_of (gives b t))) ≤ length (element_bytes b (signature t))
  in_element = leb-true _ _ (all 14 (true, Length) (omega arith))

  lie_in_file : TablesOf b (opening b t).element
  lie_in_file =
      let o = offset b (signature t) in
      let n = size b (signature t) in
      let s = shape (element_bytes b (signature t)) (channels_of (takes b t)) (channels_of (gives b t)) in
      let h = in_element in
      record {
        input = part b o n (head s.kind) (input_size s) in_file (omega (arith, h));
        nodes = part b o n (nodes_start s) (nodes_size s) in_file (omega (arith, h));
        output = part b o n (output_start s) (output_size s) in_file in_element;
      }

-- the first record that has the signature, and its place
record Listed (b : List ℕ) (w : ℕ) : Type 0 where
  pub index : ℕ
  pub first : FirstWith b w index
  pub place : record_place b w ≡ record_at index

listed : (b : List ℕ) (w : ℕ) (o : Option ℕ) → first_record b w (records b) ≡ o → is_some o ≡ true → Listed b w
listed b w None is h = search rules
listed b w (Some q) is h =
    let n = records b in
    let named : ℕ → Bool = λ p. word b p == w in
    let places = record_places n in
    let k = position_or_len named places in
    let at : slice_get places k ≡ Some q = sym (find_at named places) ∙ is in
    let within : k < length places = slice_get_within places k q at in
    let long : length places ≡ n = length-map-range_with_len record_at 0 n in
    let inside : k < n = omega arith in
    let place : (j : ℕ) → j < n → get_or places j 0 ≡ record_at j = λ j l. get_or-map-range_with_len record_at 0 n j j 0 l (zero-add j) in
    let passes : named (get_or places k 0) ≡ true = passes_at_first named places 0 within in
    record {
      index = k;
      first = record {
        listed = inside;
        named = eqb-true _ _ (ap named (sym (place k inside)) ∙ passes);
        earlier = λ j l. eqb-false _ _ (ap named (sym (place j (omega arith))) ∙ fails_before_first named places j 0 l);
      };
      place = ap (λ o. unwrap_or o 0) is ∙ sym (get_or_from_slice_get places k q 0 at) ∙ place k inside;
    }

-- as many bytes as are there
length_part : (e : List ℕ) (f k : ℕ) → f + k ≤ length e → length (take k (drop f e)) ≡ k
length_part e f k fits = omega (arith, length-take k (drop f e), length-drop f e)

-- a byte of an element is that of the file
byte_of : (b : List ℕ) (o n i : ℕ) → i < n → slice_index (take n (drop o b)) i ≡ slice_index b (o + i)
byte_of b o n i l = get_or-take n (drop o b) i 0 l ∙ get_or-drop o b i 0

-- and so are its first four
type_word : (b : List ℕ) (o n : ℕ) → 4 ≤ n → word (take n (drop o b)) 0 ≡ word b o
type_word b o n l =
    let b0 = byte_of b o n 0 (omega (arith, l)) in
    let b1 = byte_of b o n 1 (omega (arith, l)) in
    let b2 = byte_of b o n 2 (omega (arith, l)) in
    let b3 = byte_of b o n 3 (omega (arith, l)) in
    rw (b0, b1, b2, b3) (rw add-zero refl)

-- a type that is there is the one that is told
type_there : (o : Option Kind) (d : Kind) → is_some o ≡ true → o ≡ Some (unwrap_or o d)
type_there None d h = search rules
type_there (Some k) d h = refl

module _ (b : List ℕ) (t : Tag) (all : Passing (checks b t)) where
  lies_at : LiesAt b (offset b (signature t)) (size b (signature t)) (opening b t).element
  lies_at =
      let o = offset b (signature t) in
      let n = size b (signature t) in
      let e = element_bytes b (signature t) in
      let s = shape e (channels_of (takes b t)) (channels_of (gives b t)) in
      let fits = in_element b t all in
      let long : 52 ≤ length e = leb-true _ _ (all 7 (true, Length) (omega arith)) in
      let whole : length e ≤ n = omega (arith, length-take n (drop o b)) in
      let input = length_part e (head s.kind) (input_size s) (omega (arith, fits)) in
      let nodes = length_part e (nodes_start s) (nodes_size s) (omega (arith, fits)) in
      let output = length_part e (output_start s) (output_size s) fits in
      record {
        type = ap kind_of (sym (type_word b o n (omega arith))) ∙ type_there (kind_of (word e 0)) Lut8 (all 8 (true, Length) (omega arith));
        input = refl;
        nodes = omega (arith, input);
        output = omega (arith, nodes);
        inside = omega (arith, output, fits, whole);
      }

  taken_from : TakenFrom b (signature t) (opening b t).element
  taken_from =
      let w = signature t in
      let l = listed b w (first_record b w (records b)) refl (all 5 (true, Length) (omega arith)) in
      record {
        index = l.index;
        first = l.first;
        lies = subst (λ p. LiesAt b (word b (p + 4)) (word b (p + 8)) (opening b t).element) l.place lies_at;
      }

pub taken : (b : List ℕ) (t : Tag) (r : Result Opened Fault) → viewed r ≡ opened b t → IfOk r (λ o. TakenFrom b (signature t) (element_view o.element))
unfolding opened
taken b t (Ok o) is = subst (λ v. TakenFrom b (signature t) v.element) (passed (checks b t) (opening b t) (opening_view o) (sym is)) (taken_from b t (all_pass (checks b t) (opening b t) (opening_view o) (sym is)))
taken b t (Err f) is = tt

pub tables_lie : (b : List ℕ) (t : Tag) (r : Result Opened Fault) → viewed r ≡ opened b t → IfOk r (λ o. TablesOf b (element_view o.element))
unfolding opened
tables_lie b t (Ok o) is = subst (λ v. TablesOf b v.element) (passed (checks b t) (opening b t) (opening_view o) (sym is)) (lie_in_file b t (all_pass (checks b t) (opening b t) (opening_view o) (sym is)))
tables_lie b t (Err f) is = tt
