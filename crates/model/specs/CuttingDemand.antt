-- What request 2 of document 02 says of cutting and joining, over every good package: so, by `EveryList`, over every one that calls reach.
-- `proofs/CuttingDemands.antt` proves it.
-- Assumes nothing.
use Rattle.std.specs.Prelude.{ℕ, suc, ◌+◌, ◌*◌, ◌<◌, ◌≡◌, true, List, [], ◌∷◌, eqb, length, get_or}
use Rattle.chars.specs.Folding.{equivalent}
use Rattle.names.specs.Names.{part_name}
use Rattle.names.specs.Items.{spelled}
use Rattle.names.specs.declared.items.Suffix.TheVariants.{Piece}
use Rattle.output.specs.Answers.{answer}
use Rattle.model.specs.Sets.{Bytes}
use Rattle.model.specs.Package.{Item, State, no_item, group, content, spelling}
use Rattle.model.specs.Cutting.{piece_size, joined_item}
use Rattle.model.specs.Calls.{Changes, JoinPart, CutPart, Prints, ReadPart, MediaType, PartAt, done, step}
use Rattle.model.specs.Good.{Good}

-- the package after a cut is good, and after a join
abbrev pub CutsKeepGood : Type 0
CutsKeepGood = (room : ℕ) (S : State) (name : Bytes) (n : ℕ) → Good S → Good (step room S (CutPart name n)).1

abbrev pub JoinsKeepGood : Type 0
JoinsKeepGood = (room : ℕ) (S : State) (name : Bytes) → Good S → Good (step room S (Changes (JoinPart name))).1

-- "gives q and r with L = n times q + r and r below n, both in the answer; the first r pieces hold q + 1 bytes, the others q. The pieces take
-- the part's spelling with lower-case suffixes, 0 to n − 1, the final one marked last."
pub record CutInto (L n q r : ℕ) (spelt : Bytes) (g : List Item) : Type 0 where
  pub whole : L ≡ n * q + r
  pub below : r < n
  pub number : length g ≡ n
  pub name : (k : ℕ) → k < n → (get_or g k no_item).name ≡ spelled spelt (Piece k (eqb (suc k) n))
  pub size : (k : ℕ) → k < n → length (get_or g k no_item).bytes ≡ piece_size q r k

abbrev pub CutsDivide : Type 0
CutsDivide =
    (room : ℕ) (S : State) (name : Bytes) (n q r : ℕ) → Good S → (step room S (CutPart name n)).0 ≡ answer 0 (q ∷ r ∷ []) [] →
    CutInto (length (content (group name S.items))) n q r (spelling (group name S.items)) (group name (step room S (CutPart name n)).1.items)

-- "Joining makes one whole item in piece 0's spelling."
abbrev pub JoinsMakeOne : Type 0
JoinsMakeOne =
    (room : ℕ) (S : State) (name : Bytes) → Good S → (step room S (Changes (JoinPart name))).0.number ≡ 0 →
    group name (step room S (Changes (JoinPart name))).1.items ≡ joined_item (group name S.items) ∷ []

-- "Cutting meets 15 .., joining never does"
abbrev pub JoinsFit : Type 0
JoinsFit = (room : ℕ) (S : State) (name : Bytes) → (step room S (Changes (JoinPart name))).0.number ≡ 15 → ⊥

-- "Cutting and then joining restores every entry": the very package, under every spelling of the name
abbrev pub JoinsUndoCuts : Type 0
JoinsUndoCuts =
    (room : ℕ) (S : State) (name other : Bytes) (n : ℕ) → Good S → (step room S (CutPart name n)).0.number ≡ 0 → part_name other ≡ true →
    equivalent other name ≡ true → step room (step room S (CutPart name n)).1 (Changes (JoinPart other)) ≡ (done, S)

-- "reading, media type and position answers are alike" in S and in T, for every name, offset, position and output
pub record Alike (room : ℕ) (S T : State) : Type 0 where
  pub reading : (name output : Bytes) (offset : ℕ) → (step room T (Prints (ReadPart name offset) output)).0 ≡ (step room S (Prints (ReadPart name offset) output)).0
  pub media_type : (name output : Bytes) → (step room T (Prints (MediaType name) output)).0 ≡ (step room S (Prints (MediaType name) output)).0
  pub position : (i : ℕ) (output : Bytes) → (step room T (Prints (PartAt i) output)).0 ≡ (step room S (Prints (PartAt i) output)).0

-- "before and after either"
abbrev pub CutsKeepAnswers : Type 0
CutsKeepAnswers = (room : ℕ) (S : State) (name : Bytes) (n : ℕ) → Good S → Alike room S (step room S (CutPart name n)).1

abbrev pub JoinsKeepAnswers : Type 0
JoinsKeepAnswers = (room : ℕ) (S : State) (name : Bytes) → Good S → Alike room S (step room S (Changes (JoinPart name))).1
