-- "Resolving is RFC 3986 5.2 and 5.3, strict."
-- Assumes nothing.
use Rattle.std.specs.Prelude.{ℕ, zero, suc, ◌+◌, Bool, true, false, ◌&&◌, ◌||◌, cond, List, [], ◌∷◌, ◌++◌, eqb, length, take, drop, get_or}
use Rattle.chars.specs.Bytes.{ascii, slash}
use Rattle.chars.specs.Lists.{is_empty, same, begins, index_of, after_last}
use Rattle.names.specs.Names.{folder}
use Rattle.iri.specs.Components.{Components, defined, components, recompose}
use Rattle.output.specs.Answers.{Outcome, Text, provided}
use Rattle.names.specs.Iris.{iri, package_iri}

-- 5.2.4, remove_dot_segments: the input and the output buffer
pub record Buffers : Type 0 where
  pub input : List ℕ
  pub output : List ℕ

abbrev pub buffers : List ℕ → List ℕ → Buffers
buffers i o = record { input = i; output = o }

-- the length of "the first path segment in the input buffer .., including the initial "/" character (if any) and any subsequent
-- characters up to, but not including, the next "/" character or the end of the input buffer"
unfoldable pub first_segment : List ℕ → ℕ
first_segment i = 1 + index_of slash (drop 1 i)

-- what one of the rules 2A to 2E does: with how many bytes from the input's front, or that it leaves "/" of the input
pub data Rule : Type 0 where
  Skip : ℕ → Rule
  Root : Rule
  Up : ℕ → Rule
  UpRoot : Rule
  Finish : Rule
  Copy : ℕ → Rule

abbrev pub rule_pick : Bool → Rule → Rule → Rule
rule_pick true r s = r
rule_pick false r s = s

unfoldable pub rule : List ℕ → Rule
rule i =
    rule_pick (begins (ascii "../") i) (Skip 3)  -- A: "remove that prefix"
    (rule_pick (begins (ascii "./") i) (Skip 2)
    (rule_pick (begins (ascii "/./") i) (Skip 2)  -- B: "replace that prefix with "/""
    (rule_pick (same i (ascii "/.")) Root
    (rule_pick (begins (ascii "/../") i) (Up 3)  -- C: the same, and remove the last segment from the output
    (rule_pick (same i (ascii "/..")) UpRoot
    (rule_pick (same i (ascii ".") || same i (ascii "..")) Finish  -- D: "remove that from the input buffer"
    (Copy (first_segment i))))))))  -- E: "move the first path segment .. to the end of the output buffer"

-- `folder`: "remove the last segment and its preceding "/" (if any) from the output buffer"
unfoldable pub turn : Rule → List ℕ → List ℕ → Buffers
turn (Skip n) i o = buffers (drop n i) o
turn Root i o = buffers (ascii "/") o
turn (Up n) i o = buffers (drop n i) (folder o)
turn UpRoot i o = buffers (ascii "/") (folder o)
turn Finish i o = buffers [] o
turn (Copy n) i o = buffers (drop n i) (o ++ take n i)

-- Each turn takes at least one byte from an input that is not empty, and leaves an empty one with its output as it is: n turns, for an
-- input of at most n bytes, are "while the input buffer is not empty".
unfoldable pub turns : ℕ → Buffers → List ℕ
turns zero b = b.output
turns (suc n) b = turns n (turn (rule b.input) b.input b.output)

unfoldable pub remove_dot_segments : List ℕ → List ℕ
remove_dot_segments s = turns (length s) (buffers s [])

-- 5.2.3, merge: "If the base URI has a defined authority component and an empty path", then "/" and the reference's path; otherwise
-- that path after "all but the last segment of the base URI's path"
unfoldable pub merge : Bool → List ℕ → List ℕ → List ℕ
merge authority base r = cond (authority && is_empty base) (slash ∷ r) (take (after_last slash base) base ++ r)

-- 5.2.2, the path of a reference that has one, and neither scheme nor authority: before dot segments are removed, and after
abbrev pub merged_path : Bool → List ℕ → List ℕ → List ℕ
merged_path authority base r = cond (eqb (get_or r 0 0) slash) r (merge authority base r)

unfoldable pub relative_path : Bool → List ℕ → List ℕ → List ℕ
relative_path authority base r = remove_dot_segments (merged_path authority base r)

abbrev pub either : Bool → Components → Components → Components
either true c d = c
either false c d = d

-- 5.2.2, transform references, strict; an undefined component is empty
unfoldable pub transform : Components → Components → Components
transform b r =
    either (defined r.scheme)
    (record { scheme = r.scheme; authority = r.authority; path = remove_dot_segments r.path; query = r.query; fragment = r.fragment })
    (either (defined r.authority)
    (record { scheme = b.scheme; authority = r.authority; path = remove_dot_segments r.path; query = r.query; fragment = r.fragment })
    (either (is_empty r.path)
    (record { scheme = b.scheme; authority = b.authority; path = b.path; query = cond (defined r.query) r.query b.query; fragment = r.fragment })
    (record { scheme = b.scheme; authority = b.authority; path = relative_path (defined b.authority) b.path r.path; query = r.query; fragment = r.fragment })))

-- the reference r, resolved against the base
abbrev pub target : List ℕ → List ℕ → Components
target base r = transform (components base) (components r)

unfoldable pub resolve : List ℕ → List ℕ → List ℕ
resolve base r = recompose (target base r)

-- an external target, "resolved against the package IRI": both by 9
unfoldable pub resolve_reference : List ℕ → List ℕ → Outcome
resolve_reference base reference = provided (package_iri base && iri reference) 9 (Text (resolve base reference) [])
