-- Request 5 of document 02, 20 or 19, said without a reader.
-- Assumes nothing.
use Rattle.std.specs.Prelude.{ℕ, ◌≡◌, Bool, true, length}
use mathlib.Core.List.{List, ◌++◌, flat_map}
use Rattle.chars.specs.Bytes.{ascii}
use Rattle.chars.specs.Lists.{same, all}
use Rattle.markup.specs.Marks.{malformed, too_deep, name_at}
use Rattle.markup.specs.Tags.{opens}
use Rattle.markup.specs.Elements.{deepest}
use Rattle.markup.specs.Streams.{said, form_of}
use Rattle.markup.specs.declared.entries.Kind.{Kind}

abbrev pub Accepted : Kind → List ℕ → Type 0
Accepted K s = form_of (said K s) ≡ 0

abbrev pub end_tags : List (List ℕ) → List ℕ
end_tags names = flat_map (λ (n : List ℕ). ascii "</" ++ (n ++ ascii ">")) names

abbrev pub is_name : List ℕ → Bool
is_name n = same (name_at n) n

-- "all before a start tag of depth 17 .. begins an accepted stream": s has a start tag behind p, where a comment and then sixteen end tags would make p an
-- accepted stream. (So p ends between tags or in text, inside sixteen elements. The comment tells this from a p that ends inside a comment or a value: there
-- an end tag could be read as something else. That the names are names tells an end tag from one that ends early, with further tags behind it.)
pub record Overdeep (K : Kind) (s : List ℕ) : Type 0 where
  pub begin : List ℕ
  pub tag : List ℕ
  pub is : s ≡ begin ++ tag
  pub starts : opens tag ≡ true
  pub names : List (List ℕ)
  pub named : all is_name names ≡ true
  pub sixteen : length names ≡ deepest
  pub begins : Accepted K (begin ++ (ascii "<!---->" ++ end_tags names))

abbrev pub TwentyMeansDeep : Type 0
TwentyMeansDeep = (K : Kind) (s : List ℕ) → form_of (said K s) ≡ too_deep → Overdeep K s

abbrev pub DeepMeansTwenty : Type 0
DeepMeansTwenty = (K : Kind) (s : List ℕ) → Overdeep K s → form_of (said K s) ≡ too_deep

-- "else 19 where it isn't accepted"
abbrev pub ElseNineteen : Type 0
ElseNineteen = (K : Kind) (s : List ℕ) → (Accepted K s → ⊥) → (form_of (said K s) ≡ too_deep → ⊥) → form_of (said K s) ≡ malformed
