-- Examples: a row for each clause of request 5 of document 02 on what is accepted, by computation.
-- Assumes nothing.
use Rattle.std.specs.Prelude.{ℕ, zero, suc, ◌≡◌, refl, List, [], ◌∷◌, ◌++◌, map, replicate}
use Prim.Native.String.{String}
use Rattle.chars.specs.Bytes.{ascii, digit, letter, member}
use Rattle.chars.specs.Lists.{same, begins, first_passing, lacks, tiled}
use Rattle.markup.specs.Marks.{malformed, too_deep, id_at, name_at, value_unit, value_byte, unquoted, dashes, comment}
use Rattle.markup.specs.Tags.{attribute_at, next_attribute, attributes_at, after_attributes, attribute_named, distinct, own, start_tag, end_tag}
use Rattle.markup.specs.Elements.{gaps, element, content}
use Rattle.markup.specs.Entries.{SaysDefault, SaysOverride, SaysRelationship, types_entry, relationship_entry}
use Rattle.markup.specs.Streams.{Says, entries_in, xml_declaration, said, form_of}
use Rattle.markup.specs.declared.entries.Kind.TheVariants.{Types, Relationships}

-- one name that opens every definition
unfoldable pub everything : Unit {0}
unfolding digit letter member same begins first_passing lacks tiled id_at name_at value_unit value_byte unquoted dashes comment attribute_at next_attribute
    attributes_at after_attributes attribute_named distinct own start_tag end_tag gaps element content types_entry relationship_entry entries_in said
everything = tt

abbrev pub types_root : List ℕ
types_root = ascii "<Types xmlns=\"http://schemas.openxmlformats.org/package/2006/content-types\">"

-- a types stream that holds this
abbrev pub holding : String → List ℕ
holding inside = types_root ++ (ascii inside ++ ascii "</Types>")

unfoldable pub forms_of : List (List ℕ) → List ℕ
forms_of streams = map (λ (s : List ℕ). form_of (said Types s)) streams

-- ACCEPTED: nothing in the root; an empty root; the declaration; blanks and comments around and in the root; an element of a prefixed name, with text,
-- elements without a prefix and comments in it; a tag pair with blanks, comments and prefixed elements; blanks in tags and prefixed attributes; entities
unfoldable pub accepted : List (List ℕ)
accepted =
    holding ""
    ∷ ascii "<Types xmlns='http://schemas.openxmlformats.org/package/2006/content-types'/>"
    ∷ (xml_declaration ++ holding "")
    ∷ (ascii " \t\r\n<!--c-->" ++ (holding " <!--<&-> -->\n" ++ ascii "<!--> -->\n"))
    ∷ holding "<a:b c='1'>text & <d>&lt;<!--->--></d></a:b>"
    ∷ holding "<Default Extension=\"x\" ContentType=\"a/b\"> <!----><a:b/>\n</Default >"
    ∷ holding "<Default\nContentType = 'a/b'\tExtension\r=\"x\" a:b='' xmlns:c=\"\" />"
    ∷ holding "<Override PartName='/&amp;&lt;&gt;&apos;&quot;' ContentType='\"'/>"
    ∷ []

accepted_all : forms_of accepted ≡ 0 ∷ 0 ∷ 0 ∷ 0 ∷ 0 ∷ 0 ∷ 0 ∷ 0 ∷ []
unfolding everything forms_of accepted
accepted_all = refl

-- MALFORMED: no bytes; a blank before the declaration; another namespace; a root of another name; two roots; text in the root; a comment with `--` in it;
-- an entry of the other kind; text in an entry; an element without a prefix in an entry; tags that don't match; a repeated attribute, prefixed ones too; a
-- missing one; an unknown one; no blank between two; `<` in a value; another `&`; a quote mark that isn't closed; a name that ends in its colon
unfoldable pub refused : List (List ℕ)
refused =
    []
    ∷ (ascii " " ++ (xml_declaration ++ holding ""))
    ∷ ascii "<Types xmlns=\"x\"/>"
    ∷ ascii "<Type xmlns=\"http://schemas.openxmlformats.org/package/2006/content-types\"/>"
    ∷ (holding "" ++ holding "")
    ∷ holding "x"
    ∷ holding "<!-- -- -->"
    ∷ holding "<Relationship Id='a' Type='b:c' Target='d'/>"
    ∷ holding "<Default Extension='x' ContentType='a/b'>x</Default>"
    ∷ holding "<Default Extension='x' ContentType='a/b'><c/></Default>"
    ∷ holding "<a:b></a:c>"
    ∷ holding "<a:b c='' c=\"\"/>"
    ∷ holding "<a:b x:c='' x:c=\"\"/>"
    ∷ holding "<Default Extension='x'/>"
    ∷ holding "<Default Extension='x' ContentType='a/b' c=''/>"
    ∷ holding "<a:b c=''d=''/>"
    ∷ holding "<a:b c='<'/>"
    ∷ holding "<a:b c='&#38;'/>"
    ∷ holding "<a:b c='/>"
    ∷ holding "<a:/>"
    ∷ []

refused_all : forms_of refused ≡ replicate 20 malformed
unfolding everything forms_of refused
refused_all = refl

-- DEPTH. So many elements, one in the other, around s
unfoldable pub nested_in : ℕ → List ℕ → List ℕ
nested_in zero s = s
nested_in (suc n) s = ascii "<a:b>" ++ (nested_in n s ++ ascii "</a:b>")

abbrev pub deep : ℕ → String → List ℕ
deep n inside = types_root ++ (nested_in n (ascii inside) ++ ascii "</Types>")

-- fifteen in the root are accepted, and a start tag of depth 17 gives 20 whatever follows it, unless something before it is malformed
depths : forms_of (deep 15 "" ∷ deep 16 "" ∷ deep 15 "<c" ∷ deep 15 "<c>" ∷ deep 15 "< c" ∷ deep 15 "</a:c><c>" ∷ deep 15 "</a:b><a:b><c>" ∷ [])
    ≡ 0 ∷ too_deep ∷ too_deep ∷ too_deep ∷ malformed ∷ malformed ∷ too_deep ∷ []
unfolding everything forms_of nested_in
depths = refl

-- WHAT IS SAID, in the stream's order, values as they are meant
types_said : said Types (holding "<Override PartName='/a&amp;b' ContentType='a/b'/><a:b/> <Default ContentType='c/d' Extension='x'></Default>")
    ≡ Says (SaysOverride (ascii "/a&b") (ascii "a/b") ∷ SaysDefault (ascii "x") (ascii "c/d") ∷ []) []
unfolding everything
types_said = refl

-- "TargetMode alone may be missing (internal)"; 2 is neither Internal nor External
relationships_said : said Relationships
    (ascii "<Relationships xmlns='http://schemas.openxmlformats.org/package/2006/relationships'>"
    ++ (ascii "<Relationship Id='a' Type='b:c' Target='d'/><Relationship TargetMode='External' Target='e' Type='f:g' Id='h'/>"
    ++ (ascii "<Relationship Id='i' Type='j:k' Target='l' TargetMode='Internal'/>"
    ++ ascii "<Relationship Id='m' Type='n:o' Target='p' TargetMode='external'/></Relationships>")))
    ≡ Says
    (SaysRelationship (ascii "a") (ascii "b:c") 0 (ascii "d")
    ∷ SaysRelationship (ascii "h") (ascii "f:g") 1 (ascii "e")
    ∷ SaysRelationship (ascii "i") (ascii "j:k") 0 (ascii "l")
    ∷ SaysRelationship (ascii "m") (ascii "n:o") 2 (ascii "p")
    ∷ []) []
unfolding everything
relationships_said = refl
