-- What the inner functions ensure: of a lent output and of scratch that a caller lends, and where they say that a component stands.
-- Assumes nothing.
use Rattle.std.specs.Prelude.{ℕ, ◌+◌, ◌-◌, ◌≤◌, ◌≡◌, Bool, ◌||◌, List, length, take, drop}
use Rattle.chars.specs.Bytes.{ascii}
use Rattle.chars.specs.Lists.{same}
use Rattle.iri.specs.Components.{scheme_of, authority_of, path_of, query_of, fragment_of}
use Rattle.iri.specs.References.{Rule, Skip, Root, Up, UpRoot, Finish, Copy, rule_pick, first_segment, remove_dot_segments, relative_path, target}
use Rattle.iri.specs.declared.dots.Move.{Move}
use Rattle.iri.specs.declared.dots.Move.TheVariants as move
use Rattle.iri.specs.declared.split.Parts.{Parts}

-- the scheme ends at a, the authority at b, the path at p, the query at q
pub record SplitAt (s : List ℕ) (a b p q : ℕ) : Type 0 where
  pub scheme : take a s ≡ scheme_of s
  pub authority : take (b - a) (drop a s) ≡ authority_of s
  pub path : take (p - b) (drop b s) ≡ path_of s
  pub query : take (q - p) (drop p s) ≡ query_of s
  pub fragment : drop q s ≡ fragment_of s
  pub a_le : a ≤ b
  pub b_le : b ≤ p
  pub p_le : p ≤ q
  pub q_le : q ≤ length s

-- the code's own name for a rule
abbrev pub of_move : Move → Rule
of_move (move.Skip n) = Skip n
of_move move.Root = Root
of_move (move.Up n) = Up n
of_move move.UpRoot = UpRoot
of_move move.Finish = Finish
of_move (move.Copy n) = Copy n

-- the last three lines of `rule`
unfoldable pub rule_end : List ℕ → Rule
rule_end i =
    rule_pick (same i (ascii "/..")) UpRoot
    (rule_pick (same i (ascii ".") || same i (ascii "..")) Finish
    (Copy (first_segment i)))

-- the first r bytes of the scratch are the path without dot segments
pub record DotsRemoved (s : List ℕ) (r : ℕ) (out' : List ℕ) : Type 0 where
  pub text : take r out' ≡ remove_dot_segments s
  pub few : r ≤ length s

-- the same for the path of a reference r from a base path
pub record Reached (a : Bool) (base r : List ℕ) (k : ℕ) (out' : List ℕ) : Type 0 where
  pub text : take k out' ≡ relative_path a base r
  pub few : k ≤ length base + length r + 1

-- the base and the reference, taken apart
pub record Taken (base r : List ℕ) (b x : Parts) : Type 0 where
  pub base_is : SplitAt base b.scheme b.authority b.path b.query
  pub reference_is : SplitAt r x.scheme x.authority x.path x.query
  pub base_few : length base ≤ 255
  pub reference_few : length r ≤ 255

-- the first k bytes of the scratch are the path of the reference r, resolved
pub record Went (base r : List ℕ) (k : ℕ) (out' : List ℕ) : Type 0 where
  pub text : take k out' ≡ (target base r).path
  pub few : k ≤ 511
