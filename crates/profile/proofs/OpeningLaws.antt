-- What opening answers, layer by layer. Assumes nothing.
use Rattle.std.proofs.Common.{◌≡◌, ◌++◌, ℕ, List, take, drop, Result, Ok, Err, IfOk, IfErr, sym, ap, ◌∙◌}
use Rattle.profile.specs.declared.directory.Found.{Found}
use Rattle.profile.specs.declared.fault.Fault.{Fault}
use Rattle.profile.specs.declared.header.Header.{Header}
use Rattle.profile.specs.declared.opening.Opened.{Opened}
use Rattle.profile.specs.declared.tag.Tag.{Tag}
use Rattle.profile.specs.Checks.{ruled, Passing, FirstFailing}
use Rattle.profile.specs.Directories.{directory_checks, found}
use Rattle.profile.specs.Headers.{header_checks, header, space_in, space_out}
use Rattle.profile.specs.Layouts.{Layout}
use Rattle.profile.specs.Opening.{between, checks, checks_of_element, opening, opened, viewed}
use Rattle.profile.specs.Tags.{signature}
use Rattle.profile.proofs.CheckLaws.{passed, passes, fails, after, before, all_pass, first_fails}

module _ (b : List ℕ) (t : Tag) where
  -- what reading an element answers, in the place that the directory tells and between the spaces of the header
  abbrev pub element_read : Header → Found → Result Layout Fault
  element_read h f = between (take f.size (drop f.offset b)) f.offset h t

  pub header_fails : (f : Fault) → ruled (header_checks b) (header b) ≡ Err f → opened b t ≡ Err f
  unfolding opened
  header_fails f h = before (header_checks b) (directory_checks b (signature t) ++ checks_of_element b t) _ _ (opening b t) h

  module _ (h : Header) (named : ruled (header_checks b) (header b) ≡ Ok h) where
    pub directory_fails : (f : Fault) → ruled (directory_checks b (signature t)) (found b (signature t)) ≡ Err f → opened b t ≡ Err f
    unfolding opened
    directory_fails f k =
        after (header_checks b) (directory_checks b (signature t) ++ checks_of_element b t) _ _ (opening b t) named ∙ before (directory_checks b (signature t)) (checks_of_element b t) _ _ (opening b t) k

    module _ (f : Found) (placed : ruled (directory_checks b (signature t)) (found b (signature t)) ≡ Ok f) where
      is_element : opened b t ≡ ruled (checks_of_element b t) (opening b t)
      unfolding opened
      is_element =
          after (header_checks b) (directory_checks b (signature t) ++ checks_of_element b t) _ _ (opening b t) named
          ∙ after (directory_checks b (signature t)) (checks_of_element b t) _ _ (opening b t) placed

      same_header : header b ≡ h
      same_header = passed (header_checks b) _ _ named

      same_place : found b (signature t) ≡ f
      same_place = passed (directory_checks b (signature t)) _ _ placed

      is_read : element_read (header b) (found b (signature t)) ≡ element_read h f
      is_read = ap (λ k. element_read k (found b (signature t))) same_header ∙ ap (element_read h) same_place

      pub element_fails : (x : Fault) → element_read h f ≡ Err x → opened b t ≡ Err x
      element_fails x k = is_element ∙ fails (checks_of_element b t) _ _ (opening b t) (is_read ∙ k)

      pub element_passes : (l : Layout) → element_read h f ≡ Ok l → opened b t ≡ Ok (record { takes = space_in h t; gives = space_out h t; element = l })
      element_passes l k =
          is_element
          ∙ passes (checks_of_element b t) _ _ (opening b t) (is_read ∙ k)
          ∙ ap (λ m. Ok (record { takes = space_in (header b) t; gives = space_out (header b) t; element = m })) (passed (checks_of_element b t) _ _ (is_read ∙ k))
          ∙ ap (λ g. Ok (record { takes = space_in g t; gives = space_out g t; element = l })) same_header

  -- what an answer says of the checks
  pub passes_all : (r : Result Opened Fault) → viewed r ≡ opened b t → IfOk r (λ _. Passing (checks b t))
  unfolding opened
  passes_all (Ok o) is = all_pass (checks b t) _ _ (sym is)
  passes_all (Err f) is = tt

  pub fails_first : (r : Result Opened Fault) → viewed r ≡ opened b t → IfErr r (λ f. FirstFailing (checks b t) f)
  unfolding opened
  fails_first (Ok o) is = tt
  fails_first (Err f) is = first_fails (checks b t) _ _ (sym is)
