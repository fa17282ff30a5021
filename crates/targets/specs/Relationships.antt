-- Relationships part of a source, and back.
-- Assumes nothing.
use Rattle.std.specs.Prelude.{ℕ, ◌-◌, ◌≡◌, true, ◌&&◌, List, [], ◌++◌, leb, eqb, length, take}
use Rattle.chars.specs.Bytes.{ascii, slash}
use Rattle.chars.specs.Lists.{after_last}
use Rattle.chars.specs.Folding.{equivalent}
use Rattle.names.specs.Names.{last_segment, folder, reserved}
use Rattle.targets.specs.Targets.{source_refusal}
use Rattle.output.specs.Answers.{Outcome, Text, provided, unless}

-- "`/` gives `/_rels/.rels`, `/foo/bar.xml` gives `/foo/_rels/bar.xml.rels`"
unfoldable pub relationships_of : List ℕ → List ℕ
relationships_of s = take (after_last slash s) s ++ (ascii "_rels/" ++ (last_segment s ++ ascii ".rels"))

-- its source by 4, then 5
unfoldable pub relationships_part : List ℕ → Outcome
relationships_part s = unless (source_refusal s) (Text (relationships_of s) [])

-- "and back": the name without its segment `_rels` and without `.rels`
unfoldable pub source_of : List ℕ → List ℕ
source_of s = take (after_last slash (folder s)) s ++ take (length (last_segment s) - 5) (last_segment s)

-- "from up to 266 bytes, `_rels` and `.rels` in either case; 4 if the name is equivalent to none that a source gives"
unfoldable pub source_part : List ℕ → Outcome
source_part s = provided (leb (length s) 266 && reserved s && eqb (source_refusal (source_of s)) 0) 4 (Text (source_of s) [])

-- back of forth is the source; what back answers is a source, and forth of it is equivalent to the name
abbrev pub BackOfForth : Type 0
BackOfForth = (s : List ℕ) → source_refusal s ≡ 0 → source_part (relationships_of s) ≡ Text s []

abbrev pub ForthOfBack : Type 0
ForthOfBack = (s x : List ℕ) → source_part s ≡ Text x [] → (source_refusal x ≡ 0) × (equivalent (relationships_of x) s ≡ true)

-- "4 if the name is equivalent to none that a source gives": every other one goes back, to an equivalent source
abbrev pub BackOfEquivalent : Type 0
BackOfEquivalent =
    (s x : List ℕ) → source_refusal x ≡ 0 → equivalent s (relationships_of x) ≡ true → (source_part s ≡ Text (source_of s) []) × (equivalent (source_of s) x ≡ true)
