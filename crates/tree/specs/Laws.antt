-- What is promised of reading, printing and editing. Assumes nothing.
use Rattle.std.specs.Prelude.{◌≡◌, ℕ, ◌+◌, ◌≤◌, ◌⊎◌, List, ◌++◌, length, take, drop, Some, None, Ok, Err, ◌≢◌}
use Rattle.syntax.specs.Census.{census}
use Rattle.syntax.specs.Limits.{nesting_limit}
use Rattle.syntax.specs.declared.fault.ReadFault.{ReadFault}
use Rattle.tree.specs.Counts.{counts}
use Rattle.tree.specs.Edits.{Leads, followed, chain, place, replaced, edited}
use Rattle.tree.specs.Items.{top_items, item}
use Rattle.tree.specs.Reading.{tree_read}
use Rattle.tree.specs.Trees.{Tree, printed, width}
use Rattle.tree.specs.WellFormed.{nesting, WellFormed, first_clash}

-- an accepted text's tree is well formed, and prints as that text
abbrev pub AcceptedTextPrintsAsItself : Type 0
AcceptedTextPrintsAsItself = (text : List ℕ) (t : Tree) → tree_read text ≡ Ok t → WellFormed t × (printed t ≡ text)

-- a well-formed tree's print is accepted, and read as that tree
abbrev pub PrintedTreeReadsAsItself : Type 0
PrintedTreeReadsAsItself = (t : Tree) → WellFormed t → tree_read (printed t) ≡ Ok t

-- well-formed trees that print alike are the same
abbrev pub EqualPrintsHaveEqualTrees : Type 0
EqualPrintsHaveEqualTrees = (t u : Tree) → WellFormed t → WellFormed u → printed t ≡ printed u → t ≡ u

-- a text that has a fault is the print of no well-formed tree
abbrev pub FaultyTextIsNoPrint : Type 0
FaultyTextIsNoPrint = (text : List ℕ) (f : ReadFault) → tree_read text ≡ Err f → (t : Tree) → WellFormed t → printed t ≢ text

-- the census of an accepted text counts its tree
abbrev pub CensusCountsTheTree : Type 0
CensusCountsTheTree = (text : List ℕ) (t : Tree) → tree_read text ≡ Ok t → census text ≡ Ok (counts t)

-- the chain that the path leads to has n items from number k on
pub record Reaches (path : List ℕ) (k n : ℕ) (t : Tree) : Type 0 where
  pub leads : Leads path t
  pub has : k + n ≤ top_items (chain path t)

-- replacing items' bytes in the print, and printing the tree with these items replaced, is the same
abbrev pub EditingBytesIsEditingTheTree : Type 0
EditingBytesIsEditingTheTree =
    (path : List ℕ) (k n : ℕ) (new t : Tree) → Reaches path k n t → printed (edited path k n new t) ≡ take (place path k t) (printed t) ++ (printed new ++ drop (place path (k + n) t) (printed t))

-- an edited tree is well formed exactly where no neighbours of the changed chain run together, and nothing is too deep
pub record SoundEdit (path : List ℕ) (k n : ℕ) (new t : Tree) : Type 0 where
  pub apart : first_clash (replaced k n new (chain path t)) ≡ None
  pub shallow : length path + nesting new ≤ nesting_limit

abbrev pub EditedTreeIsWellFormedWhereTheEditIsSound : Type 0
EditedTreeIsWellFormedWhereTheEditIsSound =
    (path : List ℕ) (k n : ℕ) (new t : Tree) → WellFormed t → WellFormed new → Reaches path k n t → (SoundEdit path k n new t → WellFormed (edited path k n new t)) × (WellFormed (edited path k n new t) → SoundEdit path k n new t)

-- where neighbours of a changed chain run together, the first such pair stands at one of the two seams
abbrev pub NeighboursRunTogetherAtASeam : Type 0
NeighboursRunTogetherAtASeam =
    (path : List ℕ) (k n : ℕ) (new t : Tree) (j : ℕ) → WellFormed t → WellFormed new → Reaches path k n t → first_clash (replaced k n new (chain path t)) ≡ Some j → (j ≡ k) ⊎ (j ≡ k + top_items new)

-- an item's own print stands at its place
abbrev pub ItemStandsAtItsPlace : Type 0
ItemStandsAtItsPlace =
    (path : List ℕ) (k : ℕ) (t : Tree) → Reaches path k 1 t → take (width (item k (chain path t))) (drop (place path k t) (printed t)) ≡ printed (item k (chain path t))

-- all steps of a path are followed exactly where it leads somewhere
abbrev pub WholePathsLead : Type 0
WholePathsLead = (path : List ℕ) (t : Tree) → (Leads path t → followed path t ≡ length path) × (followed path t ≡ length path → Leads path t)
