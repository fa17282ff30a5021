-- Examples of reading (request 5 of document 02), by computation: refusals, and what is held then.
-- Assumes nothing.
use Rattle.std.specs.Prelude.{ℕ, ◌≡◌, refl, List, [], ◌∷◌, ◌++◌, map, drop}
use Prim.Native.String.{String}
use Rattle.chars.specs.Bytes.{ascii}
use Rattle.markup.specs.Examples.{holding}
use Rattle.model.specs.Sets.{Bytes}
use Rattle.model.specs.Package.{State, empty}
use Rattle.model.specs.Texts.{types_text, relationships_text}
use Rattle.model.specs.Reading.{read_types_refusal, read_types_made, read_relationships_refusal, read_relationships_made}
use Rattle.model.specs.Opened.{everything}

-- types streams that hold this, read into a package of 12 bytes that is empty
unfoldable pub type_refusals : List String → List ℕ
type_refusals insides = map (λ (inside : String). read_types_refusal (empty 12) (holding inside)) insides

-- 7 and 4 in stream order; 10 by an entry of the same stream, its key folded; 15, which is met exactly; a 7 behind which the stream is malformed
type_rows : type_refusals
    ("<Default Extension='a' ContentType='b/c'/><Override PartName='/d' ContentType='e/f'/>"
    ∷ "<Default Extension='a.' ContentType='b/c'/><Override PartName='d' ContentType='e/f'/>"
    ∷ "<Override PartName='d' ContentType='e/f'/><Default Extension='a.' ContentType='b/c'/>"
    ∷ "<Default Extension='a' ContentType='b/c'/><Default Extension='A' ContentType='b/c'/>"
    ∷ "<Default Extension='a' ContentType='b/c'/><Default Extension='d' ContentType='e/f'/><Default Extension='g' ContentType='h/i'/>"
    ∷ "<Default Extension='a' ContentType='b/c'/><Default Extension='d' ContentType='e/f'/><Default Extension='g' ContentType='h/ij'/>"
    ∷ "<Default Extension='a.' ContentType='b/c'/><x/>"
    ∷ [])
    ≡ 0 ∷ 7 ∷ 4 ∷ 10 ∷ 0 ∷ 15 ∷ 19 ∷ []
unfolding type_refusals everything
type_rows = refl

-- relationships of this source
abbrev pub relates : String → Bytes
relates inside =
    ascii "<Relationships xmlns='http://schemas.openxmlformats.org/package/2006/relationships'>" ++ (ascii inside ++ ascii "</Relationships>")

unfoldable pub relationship_refusal : String → String → ℕ
relationship_refusal source inside = read_relationships_refusal (empty 99) (ascii source) (relates inside)

-- the source by 4 and 5, also where the stream is malformed; a mode that is none, between the type and the target; the same id twice
relationship_rows :
    relationship_refusal "/" "<Relationship Target='b?c' TargetMode='External' Id='a' Type='t:'/><Relationship Id='A' Type='t:' Target='b'/>"
    ∷ relationship_refusal "a" "<x/>"
    ∷ relationship_refusal "/_rels/a.rels" "<x/>"
    ∷ relationship_refusal "/" "<x/>"
    ∷ relationship_refusal "/" "<Relationship Id='a' Type='t:' TargetMode='external' Target=''/>"
    ∷ relationship_refusal "/" "<Relationship Id='a' Type='t:' TargetMode='Internal' Target=''/>"
    ∷ relationship_refusal "/" "<Relationship Id='a' Type='t:' Target='b'/><Relationship Id='a' Type='t:' Target='c'/>"
    ∷ []
    ≡ 0 ∷ 4 ∷ 5 ∷ 19 ∷ 8 ∷ 9 ∷ 10 ∷ []
unfolding relationship_refusal everything
relationship_rows = refl

-- what is held then, written: in folded order, `&amp;` for the byte that it means
abbrev pub types_then : State
types_then =
    read_types_made (empty 99)
    (holding "<Override ContentType='a/&amp;' PartName='/b&apos;'/><Default Extension='B' ContentType='c/d'/><Default Extension='a' ContentType='c/d'/>")

types_held : drop 116 (types_text types_then)
    ≡ ascii "<Default Extension=\"a\" ContentType=\"c/d\"/>\n"
    ++ (ascii "<Default Extension=\"B\" ContentType=\"c/d\"/>\n"
    ++ (ascii "<Override PartName=\"/b'\" ContentType=\"a/&amp;\"/>\n"
    ++ ascii "</Types>\n"))
unfolding everything
types_held = refl

-- the same id twice, of two sources
abbrev pub relationships_then : State
relationships_then =
    read_relationships_made (read_relationships_made (empty 99) (ascii "/b/C") (relates "<Relationship Id='a' Type='t:' Target='D'/>")) (ascii "/")
    (relates "<Relationship Id='a' Type='t:' Target='/e' TargetMode='External'/>")

relationships_held : drop 124 (relationships_text (ascii "/B/c") relationships_then ++ drop 124 (relationships_text (ascii "/") relationships_then))
    ≡ ascii "<Relationship Id=\"a\" Type=\"t:\" Target=\"D\"/>\n</Relationships>\n"
    ++ ascii "<Relationship Id=\"a\" Type=\"t:\" Target=\"/e\" TargetMode=\"External\"/>\n</Relationships>\n"
unfolding everything
relationships_held = refl
