-- The texts of write types and write relationships.
-- Assumes nothing.
use Rattle.std.specs.Prelude.{ℕ, cond, eqb}
use Prim.Native.Char.{code}
use Prim.Native.String.{String}
use mathlib.Core.List.{List, [], ◌∷◌, ◌++◌, flat_map}
use Rattle.chars.specs.Bytes.{ascii}
use Rattle.chars.specs.Folding.{equivalent}
use Rattle.model.specs.Sets.{Bytes, filter}
use Rattle.model.specs.Package.{State, Default, Override, Relationship}

-- "XML lines, each with LF"
abbrev pub line_feed : ℕ
line_feed = code "\n"

abbrev pub line : Bytes → Bytes
line s = s ++ line_feed ∷ []

-- "Values stand in the quotes, & as `&amp;`"
abbrev pub ampersand : ℕ
ampersand = code "&"

abbrev pub quoted_byte : ℕ → Bytes
quoted_byte b = cond (eqb b ampersand) (ascii "&amp;") (b ∷ [])

unfoldable pub quoted : Bytes → Bytes
quoted s = flat_map quoted_byte s

-- ` NAME="VALUE"`
abbrev pub attribute : String → Bytes → Bytes
attribute name value = ascii " " ++ (ascii name ++ (ascii "=\"" ++ (quoted value ++ ascii "\"")))

abbrev pub declaration : Bytes
declaration = line (ascii "<?xml version=\"1.0\" encoding=\"UTF-8\"?>")

-- `<Default Extension="" ContentType=""/>`
abbrev pub default_line : Default → Bytes
default_line d = line (ascii "<Default" ++ (attribute "Extension" d.extension ++ (attribute "ContentType" d.type ++ ascii "/>")))

-- `<Override PartName="" ContentType=""/>`
abbrev pub override_line : Override → Bytes
override_line o = line (ascii "<Override" ++ (attribute "PartName" o.name ++ (attribute "ContentType" o.type ++ ascii "/>")))

-- "`<Default ..` in folded order, then `<Override ..` in folded order": the order of the sets
unfoldable pub types_text : State → Bytes
types_text S =
    declaration
    ++ (line (ascii "<Types xmlns=\"http://schemas.openxmlformats.org/package/2006/content-types\">")
    ++ (flat_map default_line S.defaults
    ++ (flat_map override_line S.overrides
    ++ line (ascii "</Types>"))))

-- "with ` TargetMode="External"` before `/>` in mode 1"
abbrev pub mode_text : ℕ → Bytes
mode_text m = cond (eqb m 1) (ascii " TargetMode=\"External\"") []

-- `<Relationship Id="" Type="" Target=""/>`
abbrev pub relationship_line : Relationship → Bytes
relationship_line r =
    line
    (ascii "<Relationship"
    ++ (attribute "Id" r.id
    ++ (attribute "Type" r.type
    ++ (attribute "Target" r.target
    ++ (mode_text r.mode
    ++ ascii "/>")))))

-- the "relationships of a source", "by id bytes": the order of the set within a source
abbrev pub of_source : Bytes → List Relationship → List Relationship
of_source s rs = filter (λ (r : Relationship). equivalent r.source s) rs

unfoldable pub relationships_text : Bytes → State → Bytes
relationships_text s S =
    declaration
    ++ (line (ascii "<Relationships xmlns=\"http://schemas.openxmlformats.org/package/2006/relationships\">")
    ++ (flat_map relationship_line (of_source s S.relationships)
    ++ line (ascii "</Relationships>")))
