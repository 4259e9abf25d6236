-- A written link reads back. Assumes nothing.
use Rattle.std.proofs.Common.{◌≡◌, ℕ, ◌≤◌, List, ◌++◌, length, take, subst, Some, sym, ap, ◌∙◌}
use Rattle.meaning.specs.declared.Channels.{Channels}
use Rattle.meaning.specs.Colours.{Colour}
use Rattle.meaning.specs.Lattices.{entries_of_lattice, lattice}
use Rattle.profile.specs.Elements.{element_read}
use Rattle.link.specs.Written.{written, written_length}
use Rattle.link.specs.ReadBack.{ReadsBack, answer_read}
use Rattle.link.proofs.ReadBack.{reads_back, written_in_front}

-- the bytes of a link at the front of others read back, as a link of the same grid and nodes
module _ (i o : Channels) (g : ℕ) (nodes rest : List ℕ) (some : 2 ≤ g) (whole : length nodes ≡ entries_of_lattice i o g) where
  front_reads_back : ReadsBack i o g nodes (take (written_length i o (length nodes)) (written i o g nodes ++ rest))
  front_reads_back = subst (ReadsBack i o g nodes) (sym (written_in_front i o g nodes rest)) (reads_back i o g nodes some whole)

  pub write_reads_back : (grid : ℕ) (ns : List ℕ) (long : ℕ) (output : List ℕ) → g ≡ grid → nodes ≡ ns → long ≡ written_length i o (length nodes) → output ≡ written i o g nodes ++ rest → ReadsBack i o grid ns (take long output)
  write_reads_back grid ns long output same_grid same_nodes is_long is_output =
      rw (← same_grid, ← same_nodes, is_long, is_output) front_reads_back

-- an element that reads back as a link answers as the link does
pub back_answers : (i o : Channels) (g : ℕ) (ns bytes : List ℕ) → ReadsBack i o g ns bytes → (c : List ℕ) → Colour c → answer_read (element_read bytes i o) c ≡ Some ((lattice i o g ns).answer c)
back_answers i o g ns bytes back c h = ap (λ r. answer_read r c) back.opens ∙ ap Some (back.converts c h)
