-- Opening a profile: all its checks in their order, and what it gives where they pass.
use Rattle.std.specs.Prelude.{ℕ, List, ◌++◌, take, drop, Result, Ok, Err}
use Rattle.profile.specs.declared.fault.Fault.{Fault}
use Rattle.profile.specs.declared.header.Header.{Header}
use Rattle.profile.specs.declared.opening.Opened.{Opened}
use Rattle.profile.specs.declared.space.Space.{Space}
use Rattle.profile.specs.declared.tag.Tag.{Tag}
use Rattle.profile.specs.Checks.{Check, ruled}
use Rattle.profile.specs.Directories.{directory_checks, offset, size}
use Rattle.profile.specs.Elements.{element_at, element_checks, layout}
use Rattle.profile.specs.Headers.{header_checks, header, space_in, space_out}
use Rattle.profile.specs.Layouts.{Layout}
use Rattle.profile.specs.Spaces.{channels_of}
use Rattle.profile.specs.Tags.{signature}
use Rattle.profile.specs.Views.{element_view}

-- an opened profile: the space that its element takes, the one that it gives, and the element
pub record Opening : Type 0 where
  pub takes : Space
  pub gives : Space
  pub element : Layout

-- what reading an element's bytes e at a place of the file answers, between the spaces of a header
abbrev pub between : List ℕ → ℕ → Header → Tag → Result Layout Fault
between e at h t = element_at e at (channels_of (space_in h t)) (channels_of (space_out h t))

-- the element's bytes
abbrev pub element_bytes : List ℕ → ℕ → List ℕ
element_bytes b w = take (size b w) (drop (offset b w) b)

abbrev pub takes : List ℕ → Tag → Space
takes b t = space_in (header b) t

abbrev pub gives : List ℕ → Tag → Space
gives b t = space_out (header b) t

-- the element's checks, at its place in the file and between the channels of its spaces
abbrev pub checks_of_element : List ℕ → Tag → List (Check Fault)
checks_of_element b t =
    element_checks (element_bytes b (signature t)) (offset b (signature t)) (channels_of (takes b t)) (channels_of (gives b t))

-- all checks: those of the header, then those of the directory, then those of the element
abbrev pub checks : List ℕ → Tag → List (Check Fault)
checks b t = header_checks b ++ (directory_checks b (signature t) ++ checks_of_element b t)

abbrev pub opening : List ℕ → Tag → Opening
opening b t = record {
  takes = takes b t;
  gives = gives b t;
  element = layout (element_bytes b (signature t)) (offset b (signature t)) (channels_of (takes b t)) (channels_of (gives b t));
}

-- what opening answers: the opened profile where all checks pass, else the fault of the first that fails
unfoldable pub opened : List ℕ → Tag → Result Opening Fault
opened b t = ruled (checks b t) (opening b t)

-- an opened profile of the code, as lists
abbrev pub opening_view : Opened → Opening
opening_view o = record { takes = o.takes; gives = o.gives; element = element_view o.element }

abbrev pub viewed : Result Opened Fault → Result Opening Fault
viewed (Ok o) = Ok (opening_view o)
viewed (Err f) = Err f
