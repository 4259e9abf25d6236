-- A pixel kind whose samples are all of one width keeps the laws, if the width does: shown once for all kinds. Assumes nothing.
use Rattle.std.specs.Prelude.{◌≡◌, ℕ, ◌<◌, ◌≤◌, List, map, length, refl}
use Rattle.std.proofs.Common.{get_or, sym, ap, ◌∙◌, ⊎_elim, arith}
use Rattle.std.specs.List.{range_with_len}
use Rattle.std.proofs.lemmas.List.FromFn.{get_or-map-range_with_len}
use Rattle.std.proofs.lemmas.List.{length-map, length-append, length-replicate, get_or-map, get_or_past, ext_get_or}
use Rattle.std.proofs.lemmas.Bool.{cases_lt}
use Rattle.std.proofs.lemmas.Grind.{common_steps}
use Rattle.meaning.specs.declared.Channels.{Channels}
use Rattle.meaning.specs.Colours.{channels, number, at}
use Rattle.meaning.specs.Kinds.{LawfulKind, padded, stored}
use Rattle.meaning.specs.Samples.{Width, LawfulWidth, shown_count}
use Rattle.meaning.proofs.Channelwise.{number_limit}

length_padded : (cs : List ℕ) → length cs ≤ channels → length (padded cs) ≡ channels
length_padded cs h = simp (length-append, length-replicate) (omega arith)

padded_at : (cs : List ℕ) (k : ℕ) → at (padded cs) k ≡ at cs k
padded_at cs k = grind (arith, common_steps)

-- a kind over one width keeps the laws where a pixel has as many samples as channels, and a made pixel's are those given
module _ {S P : Type 0} (n : Channels) (w : Width S) (samples : P → List S) (pixel : (ℕ → S) → P) (laws : LawfulWidth w) (many : (p : P) → length (samples p) ≡ number n) (given : (f : ℕ → S) → samples (pixel f) ≡ map f (range_with_len 0 (number n))) where
  abbrev counts : P → List ℕ
  counts p = map (shown_count w) (samples p)

  abbrev made : List ℕ → P
  made c = pixel (λ k. w.nearest (at c k))

  long : (p : P) → length (counts p) ≡ number n
  long p = length-map (samples p) (shown_count w) ∙ many p

  -- the count that the sample of channel k shows
  count_at : (p : P) (k : ℕ) → k < number n → at (counts p) k ≡ shown_count w (get_or (samples p) k (w.nearest 0))
  count_at p k h = get_or-map (shown_count w) (samples p) k (w.nearest 0) 0 (rw (many p) h)

  count_beyond : (p : P) (k : ℕ) → number n ≤ k → at (counts p) k ≡ 0
  count_beyond p k h = get_or_past (counts p) k 0 (rw (long p) h)

  made_at : (c : List ℕ) (k : ℕ) → k < number n → at (counts (made c)) k ≡ shown_count w (w.nearest (at c k))
  made_at c k h =
      count_at (made c) k h
      ∙ rw (given (λ j. w.nearest (at c j)), get_or-map-range_with_len (λ j. w.nearest (at c j)) 0 (number n) k k (w.nearest 0) h (omega arith)) refl

  same_counts : (p : P) → counts (made (padded (counts p))) ≡ counts p
  same_counts p =
      let again = made (padded (counts p)) in
      ext_get_or 0 (counts again) (counts p) (long again ∙ sym (long p))
      (λ k h.
      let l : k < number n = rw (long again) at h in
      made_at (padded (counts p)) k l
      ∙ rw (padded_at (counts p) k, count_at p k l) (laws.back (get_or (samples p) k (w.nearest 0))))

  pub stored_lawful : LawfulKind (stored n w samples pixel)
  stored_lawful = record {
    error_limit = laws.error_limit;
    shows = λ p. record {
      long = length_padded (counts p) (rw (long p) (number_limit n));
      within = λ k.
          rw (padded_at (counts p) k)
          (⊎_elim
          (λ (h : k < number n). rw (count_at p k h) (omega arith))
          (λ (h : number n ≤ k). rw (count_beyond p k h) (omega arith))
          (cases_lt k (number n)));
    };
    zero_beyond = λ p k h. padded_at (counts p) k ∙ count_beyond p k h;
    close = λ c h k l. rw (padded_at (counts (made c)) k, made_at c k l) (laws.close (at c k) (h.within k));
    back = λ p. ap padded (same_counts p);
  }
