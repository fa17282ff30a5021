-- The marked (M) examples of document 01 and its examples of a resolved path and of the program `sheet`; examples of document 02: tables, and a
-- theorem over each.
-- Assumes nothing.
use Rattle.std.specs.Prelude.{ℕ, ◌+◌, ◌≡◌, refl, length, replicate}
use Prim.Native.String.{String}
use mathlib.Core.List.{List, [], ◌∷◌, ◌++◌, map, flat_map}
use Rattle.chars.specs.Bytes.{ascii}
use Rattle.output.specs.Answers.{Answer, answer}
use Rattle.targets.specs.Targets.{resolve_path}
use Rattle.model.specs.Sets.{Bytes}
use Rattle.model.specs.Package.{Item, empty}
use Rattle.model.specs.Calls.{Call, Start, Looks, Changes, CutPart, TypeOrigin, Prints, Find, Totals, PutItem, DropItem, PutDefault}
use Rattle.model.specs.Calls.{DropDefault, PutOverride, DropOverride, PutRelationship, JoinPart, ReadPart, MediaType, PartAt, ResolveRelationship, WriteTypes, WriteRelationships, done}
use Rattle.model.specs.Calls.{refused, overhead, answers, after}
use Rattle.model.specs.Texts.{line}
use Rattle.model.specs.Sheet.{sheet}
use Rattle.model.specs.Opened.{everything}

-- what the definitions compute, and what document 01 says
pub record Row : Type 0 where
  pub got : List Answer
  pub wanted : List Answer

abbrev pub Holds : List Row → Type 0
Holds t = map (λ (r : Row). r.got) t ≡ map (λ (r : Row). r.wanted) t

-- the answers of a package of C bytes, lent with no byte too many, to a list of calls
abbrev pub of_capacity : ℕ → List Call → List Answer → Row
of_capacity C calls wanted = record { got = answers (C + overhead) (empty C) calls; wanted = wanted }

-- of a package of 1,000 bytes
abbrev pub calls : List Call → List Answer → Row
calls cs a = of_capacity 1000 cs a

-- a text that a definition gives
abbrev pub text : Bytes → Bytes → Row
text g w = record { got = answer 0 [] g ∷ []; wanted = answer 0 [] w ∷ [] }

abbrev pub put_bytes : Bytes → Call
put_bytes name = Changes (PutItem name (ascii "x"))

abbrev pub put : String → Call
put name = put_bytes (ascii name)

abbrev pub one : Call → Answer → Row
one c a = calls (c ∷ []) (a ∷ [])

-- "after" a put that passes
abbrev pub after_put : String → Call → Answer → Row
after_put name c a = calls (put name ∷ c ∷ []) (done ∷ a ∷ [])

-- a relationship from the source, with this mode and target, resolved in a package: the text, the mode, and 0 since that part is not held
abbrev pub resolves : String → ℕ → String → String → String → Row
resolves source mode target base wanted =
    calls
    (Changes (PutRelationship (ascii source) (ascii "r") (ascii "t:t") mode (ascii target))
    ∷ Prints (ResolveRelationship (ascii source) (ascii "r") (ascii base)) (replicate (length (ascii wanted)) 0)
    ∷ [])
    (done ∷ answer 0 (length (ascii wanted) ∷ mode ∷ 0 ∷ []) (ascii wanted) ∷ [])

-- "## Marked (M) examples"
unfoldable pub marked : List Row
marked =
    one (put "/hello/world/doc.xml") done
    ∷ one (put_bytes (0x2F ∷ 0xC3 ∷ 0xA9 ∷ [])) done
    ∷ one (put "") (refused 4)
    ∷ one (put "/") (refused 4)
    ∷ one (put "/a%2fb") (refused 4)
    ∷ one (put "/a/%41") (refused 4)
    ∷ one (put "/a/b.") (refused 4)
    ∷ one (put "/x/_RELS/y.RELS") (refused 5)
    ∷ one (put "/_rels/x.rels.xml") done
    ∷ after_put "/a" (put "/A") (refused 10)
    ∷ after_put "/a" (put "/a/b") (refused 11)
    ∷ after_put "/a" (put "/ab") done
    ∷ after_put "/a/b" (put "/a") (refused 11)
    ∷ one (put "/a/[01].piece") (refused 6)
    ∷ resolves "/foo/test.xml" 0 "b.xml" "http://www.example.com/ex.opc" "pack://http%3A,,www.example.com,ex.opc/foo/b.xml"
    ∷ resolves "/foo/test.xml" 1 "b.xml" "http://www.example.com/ex.opc" "http://www.example.com/b.xml"
    ∷ text (resolve_path (ascii "/a/b/c") (ascii "../../g")) (ascii "/g")
    ∷ []

pub marked_hold : Holds marked
unfolding marked everything
marked_hold = refl

-- "## Program `sheet`"; then a line that is too long or has no form, content with spaces, empty content, and none
unfoldable pub sheets : List Row
sheets =
    text (sheet (ascii "P /a.xml hello\nP /B/[0].piece abc\nD XML text/xml\nP /b/[1].LAST.piece de\nL\n"))
    (ascii "  0\n  0\n  0\n  0\n   1        5 /a.xml text/xml\n   2        5 /B -\n")
    ∷ text (sheet (ascii "P /c a b  \nP /d \nP /e\n\nL \nX /D\nO /C o/o\nL")) (ascii "  0\n  0\n 16\n 16\n 16\n  0\n  0\n   1        5 /c o/o\n")
    ∷ text (sheet (ascii "P /c " ++ (replicate 1019 0 ++ ascii "\nP /d " ++ (replicate 1020 0)))) (ascii "  0\n 16\n")
    ∷ []

pub sheets_hold : Holds sheets
unfolding sheets everything
sheets_hold = refl

abbrev pub drops : String → Call
drops name = Changes (DropItem (ascii name))

-- into an output of 8 bytes
abbrev pub typed : String → Call
typed name = Prints (MediaType (ascii name)) (ascii "........")

-- "mistakes": folding É, the first dot for the extension, a Default beating an Override; the numbers 10, 12 and 13 on pieces; content and
-- spelling of a part; 3, and the order of 6, 4, 5; a start in the middle, and 15
unfoldable pub others : List Row
others =
    calls (put_bytes (0x2F ∷ 0xC3 ∷ 0xA9 ∷ []) ∷ put_bytes (0x2F ∷ 0xC3 ∷ 0x89 ∷ []) ∷ []) (done ∷ done ∷ [])
    ∷ calls
    (put "/a.b.c" ∷ Changes (PutDefault (ascii "C") (ascii "a/c")) ∷ Changes (PutDefault (ascii "b.c") (ascii "a/d")) ∷ typed "/A.b.c" ∷ [])
    (done ∷ done ∷ refused 7 ∷ answer 0 (3 ∷ []) (ascii "a/c.....") ∷ [])
    ∷ calls
    (put "/a.x" ∷ typed "/a.x" ∷ Changes (PutDefault (ascii "x") (ascii "d/d")) ∷ Changes (PutOverride (ascii "/A.X") (ascii "o/o")) ∷ typed "/a.x" ∷ typed "/b.x" ∷ [])
    (done ∷ answer 14 (0 ∷ []) (ascii "........") ∷ done ∷ done ∷ answer 0 (3 ∷ []) (ascii "o/o.....") ∷ answer 13 (0 ∷ []) (ascii "........") ∷ [])
    ∷ calls
    (put "/p/[1].last.piece" ∷ put "/P/[1].piece" ∷ put "/p/[2].piece" ∷ put "/p" ∷ put "/p/q" ∷ drops "/p/[1].piece" ∷ Prints (PartAt 0) (ascii "....")
    ∷ put "/P/[0].piece" ∷ Prints (PartAt 0) (ascii "....") ∷ Prints (ReadPart (ascii "/p") 1) (ascii "....") ∷ Looks Totals ∷ drops "/p/[1].Last.piece" ∷ Looks Totals ∷ [])
    (done ∷ refused 10 ∷ refused 12 ∷ refused 12 ∷ refused 11 ∷ refused 13 ∷ answer 13 (0 ∷ []) (ascii "....")
    ∷ done ∷ answer 0 (2 ∷ []) (ascii "/P..") ∷ answer 0 (1 ∷ []) (ascii "x...") ∷ answer 0 (2 ∷ 1 ∷ 31 ∷ []) [] ∷ done ∷ answer 0 (1 ∷ 0 ∷ 13 ∷ []) [] ∷ [])
    ∷ calls
    (Prints WriteTypes (ascii "..") ∷ Looks (Find (ascii "/_rels/.rels")) ∷ Looks (Find (ascii "/a%2f/[x]")) ∷ Looks (Find (ascii "[0].piece")) ∷ put "/_rels/a.rels/[0].piece"
    ∷ Prints (WriteRelationships (ascii "/_rels/.rels")) (ascii "..") ∷ Prints (ResolveRelationship (ascii "/") (ascii "1") (ascii "no")) (ascii "..") ∷ [])
    (answer 3 (125 ∷ []) (ascii "..") ∷ refused 13 ∷ refused 6 ∷ refused 4 ∷ refused 5
    ∷ answer 5 (0 ∷ []) (ascii "..") ∷ answer 8 (0 ∷ 0 ∷ 0 ∷ []) (ascii "..") ∷ [])
    ∷ of_capacity 6 (Start 7 ∷ put "/abcd" ∷ Start 5 ∷ put "/abcd" ∷ put "/abc" ∷ put "/d" ∷ drops "/ABC" ∷ put "/d" ∷ Looks Totals ∷ [])
    (refused 2 ∷ done ∷ done ∷ refused 15 ∷ done ∷ refused 15 ∷ done ∷ done ∷ answer 0 (1 ∷ 1 ∷ 3 ∷ []) [] ∷ [])
    ∷ record { got = answers 2000000 (empty 5) (Start 1000001 ∷ Start 1000000 ∷ []); wanted = refused 2 ∷ done ∷ [] }
    ∷ []

pub others_hold : Holds others
unfolding others everything
others_hold = refl

-- a Default with this type
abbrev pub typing : Bytes → Call
typing type = Changes (PutDefault (ascii "tif") type)

-- a type with n parameters of 4 bytes
abbrev pub crowded : ℕ → Bytes
crowded n = ascii "a/b" ++ flat_map (λ (k : ℕ). ascii ";c=d") (replicate n 0)

abbrev pub streamed : Bytes
streamed =
    line (ascii "<?xml version=\"1.0\" encoding=\"UTF-8\"?>")
    ++ (line (ascii "<Types xmlns=\"http://schemas.openxmlformats.org/package/2006/content-types\">")
    ++ (line (ascii "<Default Extension=\"tif\" ContentType=\"a/b;c=&amp;\"/>") ++ line (ascii "</Types>")))

-- document 02, 1: "The technician's camera writes `image/tiff;page=2`." The text comes back as given, in the stream with & as `&amp;`, and from a
-- sheet; what is no parameter; "The 127 bytes cover the whole."
unfoldable pub parameters : List Row
parameters =
    calls (put "/t.tif" ∷ typing (ascii "image/tiff;page=2") ∷ Prints (MediaType (ascii "/T.TIF")) (replicate 17 0) ∷ [])
    (done ∷ done ∷ answer 0 (17 ∷ []) (ascii "image/tiff;page=2") ∷ [])
    ∷ calls (typing (ascii "a/b;c=&") ∷ Prints WriteTypes (replicate (length streamed) 0) ∷ []) (done ∷ answer 0 (length streamed ∷ []) streamed ∷ [])
    ∷ text (sheet (ascii "P /t.tif x\nD tif image/tiff;page=2\nO /t.tif image/tiff;page\nL\n"))
    (ascii "  0\n  0\n  7\n   1        1 /t.tif image/tiff;page=2\n")
    ∷ one (typing (ascii "a/b;c=d;c=e")) done
    ∷ one (typing (ascii "a/b;")) (refused 7)
    ∷ one (typing (ascii "a/b;;c=d")) (refused 7)
    ∷ one (typing (ascii "a/b;c")) (refused 7)
    ∷ one (typing (ascii "a/b;c=")) (refused 7)
    ∷ one (typing (ascii "a/b;=d")) (refused 7)
    ∷ one (typing (ascii "a/b;c=d=e")) (refused 7)
    ∷ one (typing (ascii "a/b;c=d/e")) (refused 7)
    ∷ one (typing (ascii "a/b; c=d")) (refused 7)
    ∷ one (typing (ascii "a/b;c=\"d\"")) (refused 7)
    ∷ one (typing (ascii "a;c=d/b")) (refused 7)
    ∷ one (typing (crowded 31)) done
    ∷ one (typing (crowded 30 ++ ascii ";c=de")) (refused 7)
    ∷ []

pub parameters_hold : Holds parameters
unfolding parameters everything
parameters_hold = refl

-- an item with this content
abbrev pub puts : String → String → Call
puts name bytes = Changes (PutItem (ascii name) (ascii bytes))

abbrev pub cuts : String → ℕ → Call
cuts name n = CutPart (ascii name) n

abbrev pub joins : String → Call
joins name = Changes (JoinPart (ascii name))

-- a cut gives q and r, or is refused
abbrev pub into : ℕ → ℕ → Answer
into q r = answer 0 (q ∷ r ∷ []) []

abbrev pub uncut : ℕ → Answer
uncut k = answer k (0 ∷ 0 ∷ []) []

-- the items that a package of 1,000 bytes holds after these calls, a line for each: its name and its bytes
abbrev pub inventory : List Call → Bytes
inventory cs = flat_map (λ (i : Item). i.name ++ (ascii " " ++ line i.bytes)) (after (1000 + overhead) (empty 1000) cs).items

abbrev pub leaves : List Call → String → Row
leaves cs wanted = text (inventory cs) (ascii wanted)

-- the part's answers: read from its second byte on, its media type, the part at position 1
abbrev pub asked : List Call
asked = Prints (ReadPart (ascii "/TILE") 1) (ascii "........") ∷ typed "/tile" ∷ Prints (PartAt 1) (ascii "........") ∷ []

abbrev pub told : List Answer
told = answer 0 (6 ∷ []) (ascii "bcdefg..") ∷ answer 0 (3 ∷ []) (ascii "o/o.....") ∷ answer 0 (5 ∷ []) (ascii "/Tile...") ∷ []

-- a part that stands between another one and an unfinished group
abbrev pub tile : List Call
tile = puts "/a" "x" ∷ puts "/z/[0].piece" "u" ∷ puts "/Tile" "abcdefg" ∷ Changes (PutOverride (ascii "/tilE") (ascii "o/o")) ∷ []

-- document 02, 2: the pieces of 7 bytes cut into 3, in the held spelling; one piece; more pieces than bytes; no bytes. The answers of parts before
-- a cut, after it and after the join, and the items then. Pieces in several spellings joined in that of piece 0. 4, 13, 18 and 17, and their
-- order: 18 also where n is 0, 17 also where 257 pieces would pass C. 15 by the charge, exact and one byte less, and by the items, 256 and one
-- more; a refused cut keeps the package
unfoldable pub divisions : List Row
divisions =
    leaves (puts "/Tiles/A.png" "abcdefg" ∷ cuts "/tiles/a.PNG" 3 ∷ [])
    "/Tiles/A.png/[0].piece abc\n/Tiles/A.png/[1].piece de\n/Tiles/A.png/[2].last.piece fg\n"
    ∷ calls (puts "/a" "abcdefg" ∷ cuts "/A" 3 ∷ Looks Totals ∷ []) (done ∷ into 2 1 ∷ answer 0 (3 ∷ 1 ∷ 48 ∷ []) [] ∷ [])
    ∷ calls (puts "/a" "abcdefg" ∷ cuts "/a" 1 ∷ []) (done ∷ into 7 0 ∷ [])
    ∷ leaves (puts "/a" "abcdefg" ∷ cuts "/a" 1 ∷ []) "/a/[0].last.piece abcdefg\n"
    ∷ calls (puts "/a" "ab" ∷ cuts "/a" 4 ∷ []) (done ∷ into 0 2 ∷ [])
    ∷ leaves (puts "/a" "ab" ∷ cuts "/a" 4 ∷ []) "/a/[0].piece a\n/a/[1].piece b\n/a/[2].piece \n/a/[3].last.piece \n"
    ∷ calls (puts "/a" "" ∷ cuts "/a" 2 ∷ []) (done ∷ into 0 0 ∷ [])
    ∷ leaves (puts "/a" "" ∷ cuts "/a" 2 ∷ []) "/a/[0].piece \n/a/[1].last.piece \n"
    ∷ calls (tile ++ (asked ++ (cuts "/tILe" 3 ∷ asked ++ (joins "/tiLE" ∷ asked))))
    (done ∷ done ∷ done ∷ done ∷ told ++ (into 2 1 ∷ told ++ (done ∷ told)))
    ∷ text (inventory (tile ++ (cuts "/tILe" 3 ∷ joins "/tiLE" ∷ []))) (inventory tile)
    ∷ leaves (puts "/a" "abcdefg" ∷ cuts "/a" 1 ∷ joins "/a" ∷ []) "/a abcdefg\n"
    ∷ leaves (puts "/t/[1].LAST.piece" "cd" ∷ puts "/T/[0].Piece" "ab" ∷ joins "/t" ∷ []) "/T abcd\n"
    ∷ calls
    (put "/p" ∷ put "/q/[0].piece" ∷ put "/r/[0].last.piece" ∷ cuts "/p/[0].piece" 2 ∷ cuts "/q" 2 ∷ cuts "/s" 2 ∷ cuts "/r" 2 ∷ cuts "/r" 0 ∷ cuts "/p" 0
    ∷ cuts "/p" 257 ∷ joins "/r/[0].last.piece" ∷ joins "/q" ∷ joins "/s" ∷ joins "/p" ∷ [])
    (done ∷ done ∷ done ∷ uncut 4 ∷ uncut 13 ∷ uncut 13 ∷ uncut 18 ∷ uncut 18 ∷ uncut 17
    ∷ uncut 17 ∷ refused 4 ∷ refused 13 ∷ refused 13 ∷ refused 18 ∷ [])
    ∷ of_capacity 30 (put "/a" ∷ cuts "/a" 2 ∷ Looks Totals ∷ []) (done ∷ into 0 1 ∷ answer 0 (2 ∷ 1 ∷ 30 ∷ []) [] ∷ [])
    ∷ of_capacity 29 (put "/a" ∷ cuts "/a" 2 ∷ Looks Totals ∷ []) (done ∷ uncut 15 ∷ answer 0 (1 ∷ 1 ∷ 3 ∷ []) [] ∷ [])
    ∷ of_capacity 4000 (put "/b" ∷ cuts "/b" 256 ∷ []) (done ∷ into 0 1 ∷ [])
    ∷ of_capacity 4000 (put "/a" ∷ put "/b" ∷ cuts "/b" 256 ∷ []) (done ∷ done ∷ uncut 15 ∷ [])
    ∷ []

pub divisions_hold : Holds divisions
unfolding divisions everything
divisions_hold = refl

-- how the type of this part was arrived at, lent this output; the kind, the key's length and the output then
abbrev pub argues : String → String → Call
argues name out = TypeOrigin (ascii name) (ascii out)

abbrev pub by : ℕ → ℕ → String → Answer
by kind n out = answer 0 (kind ∷ n ∷ []) (ascii out)

abbrev pub unargued : ℕ → ℕ → String → Answer
unargued k n out = answer k (n ∷ 0 ∷ []) (ascii out)

abbrev pub overrides : String → Call
overrides name = Changes (PutOverride (ascii name) (ascii "o/o"))

abbrev pub defaults : String → Call
defaults extension = Changes (PutDefault (ascii extension) (ascii "d/d"))

-- document 02, 3: the Override, else the Default, else neither, each key as it was put; an output that is longer, exact, one byte short, and
-- none. A name without a dot, one with its dot in an earlier segment, one whose last segment begins with it. A part in pieces. 4; 13 for no
-- part, for an unfinished group, and for a name that has an Override only, also where no output is lent
unfoldable pub origins : List Row
origins =
    calls
    (put "/A.png" ∷ argues "/a.PNG" "......" ∷ argues "/a.PNG" "" ∷ defaults "pNg" ∷ argues "/a.PNG" "......" ∷ overrides "/a.Png" ∷ argues "/A.png" "........"
    ∷ argues "/A.png" "......" ∷ argues "/A.png" "....." ∷ Changes (DropOverride (ascii "/a.png")) ∷ argues "/A.png" "..." ∷ argues "/A.png" ".."
    ∷ Changes (DropDefault (ascii "png")) ∷ argues "/A.png" "" ∷ [])
    (done ∷ by 0 0 "......" ∷ by 0 0 "" ∷ done ∷ by 1 3 "pNg..." ∷ done ∷ by 2 6 "/a.Png.."
    ∷ by 2 6 "/a.Png" ∷ unargued 3 6 "....." ∷ done ∷ by 1 3 "pNg" ∷ unargued 3 3 ".."
    ∷ done ∷ by 0 0 "" ∷ [])
    ∷ calls (defaults "b" ∷ put "/b" ∷ put "/a.b/c" ∷ put "/a/.b" ∷ argues "/b" ".." ∷ argues "/a.b/c" ".." ∷ argues "/a/.b" ".." ∷ [])
    (done ∷ done ∷ done ∷ done ∷ by 0 0 ".." ∷ by 0 0 ".." ∷ by 1 1 "b." ∷ [])
    ∷ calls (put "/t.x/[0].piece" ∷ defaults "x" ∷ argues "/t.x" ".." ∷ put "/t.x/[1].last.piece" ∷ argues "/T.X" ".." ∷ [])
    (done ∷ done ∷ unargued 13 0 ".." ∷ done ∷ by 1 1 "x." ∷ [])
    ∷ calls (overrides "/a" ∷ argues "/a" "" ∷ argues "a" ".." ∷ argues "/a/[0].piece" "" ∷ put "/a" ∷ argues "/A" ".." ∷ typed "/A" ∷ [])
    (done ∷ unargued 13 0 "" ∷ unargued 4 0 ".." ∷ unargued 4 0 "" ∷ done ∷ by 2 2 "/a" ∷ answer 0 (3 ∷ []) (ascii "o/o.....") ∷ [])
    ∷ []

pub origins_hold : Holds origins
unfolding origins everything
origins_hold = refl
