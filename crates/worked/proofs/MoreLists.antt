-- The other worked lists, computed on the definitions.
-- Assumes nothing.
use Prim.Native.Nat.{ℕ, ◌≤◌}
use Prim.Native.String.{String}
use mathlib.Core.Path.{◌≡◌, refl, ap, ◌∙◌}
use mathlib.Core.List.{List, [], ◌∷◌, ◌++◌}
use native.Mathlib.Omega.{arith}
use lib.ListN.{length, get_or, take, drop}
use lib.Seq.{take_all}
use Rattle.chars.specs.Bytes.{ascii}
use Rattle.output.specs.Answers.{Answer, answer, of_written, Text, filled}
use Rattle.std.specs.Prelude.{Result, Ok, Err}
use Rattle.output.specs.declared.refusals.Refusal.{Refusal}
use Rattle.output.specs.declared.refusals.Unwritten.{Unwritten}
use Rattle.output.specs.declared.refusals.Unwritten.TheVariants.{TooShort, Refused}
use Rattle.output.proofs.Answering.{number_some, filled_fits}
use Rattle.model.specs.Sets.{Bytes}
use Rattle.model.specs.Package.{empty}
use Rattle.model.specs.Calls.{Call, Looks, Changes, CutPart, TypeOrigin, Prints, Find, View, Totals, PutItem, DropItem, PutDefault, DropDefault, PutOverride}
use Rattle.model.specs.Calls.{DropOverride, PutRelationship, DropRelationship, JoinPart, ReadTypes, ReadRelationships, PartAt, ReadPart, MediaType, WriteRelationships, printed}
use Rattle.model.specs.Calls.{done, answers, after}
use Rattle.model.specs.TypeOrigin.{keyed, type_origin}
use Rattle.model.proofs.Origins.{keyed_fits}
use Rattle.model.specs.Opened.{everything}
use Rattle.contract.specs.Answers.{of_totals}
use Rattle.contract.specs.declared.answers.Totals as totals
use Rattle.types.specs.TypeOrigins.{of_type_origin}
use Rattle.types.specs.declared.origin.TypeOrigin.TheVariants as origin
use Rattle.types.specs.declared.origin.TypeOrigin as origins
use Rattle.worked.specs.Last.{wrote, by_default, tiff_type, joined_from, linked_text}

-- an output that suffices takes the text
wrote_fits : (t out : Bytes) → length t ≤ length out → filled 1 out (Text t []) ≡ wrote t out
wrote_fits t out h = filled_fits 1 out t [] h

-- what then stands in the output
pub wrote_output : (r : Result ℕ Unwritten) (t o out : Bytes) → of_written r o ≡ wrote t out → o ≡ t ++ drop (length t) out
wrote_output (Ok n) t o out e = ap (λ (a : Answer). a.output) e
wrote_output (Err (TooShort n)) t o out e = absurd (omega (arith, ap (λ (a : Answer). a.number) e))
wrote_output (Err (Refused f)) t o out e = absurd (number_some f (ap (λ (a : Answer). a.number) e))

-- and where the entry was named
pub named_output : (r : Result origins.TypeOrigin Unwritten) (t o out : Bytes) → of_type_origin r o ≡ by_default t out → o ≡ t ++ drop (length t) out
named_output (Ok (origin.Override n)) t o out e = ap (λ (a : Answer). a.output) e
named_output (Ok (origin.Default n)) t o out e = ap (λ (a : Answer). a.output) e
named_output (Ok origin.Neither) t o out e = ap (λ (a : Answer). a.output) e
named_output (Err (TooShort n)) t o out e = ap (λ (a : Answer). a.output) e
named_output (Err (Refused f)) t o out e = ap (λ (a : Answer). a.output) e

-- totals of some items are no refusal
pub totals_of : (r : Result totals.Totals Refusal) (i n c : ℕ) → of_totals r ≡ answer 0 (i ∷ n ∷ c ∷ []) []
    → r ≡ Ok (record { items = i; parts = n; charge = c })
totals_of (Ok t) i n c e = rw (← ap (λ (a : Answer). get_or a.values 0 0) e, ← ap (λ (a : Answer). get_or a.values 1 0) e, ← ap (λ (a : Answer). get_or a.values 2 0) e)
totals_of (Err f) i n c e = absurd (number_some f (ap (λ (a : Answer). a.number) e))

-- what an answer holds
pub held_in : {A : Type 0} {r : Result A Refusal} {x y : A} → r ≡ Ok x → r ≡ Ok y → x ≡ y
held_in e f = cc (e, f)

-- ONE TILE OF TWO. the calls after the start, but for the last one; then the ledger's answer to the last one
abbrev pub counting : List Call
counting =
    Changes (PutItem (ascii "/a.tif") (ascii "tile"))
    ∷ Changes (PutItem (ascii "/b.tif") (ascii "other"))
    ∷ Changes (PutDefault (ascii "tif") (ascii "image/tiff"))
    ∷ Changes (DropItem (ascii "/A.TIF"))
    ∷ Changes (DropDefault (ascii "TIF"))
    ∷ Looks Totals
    ∷ []

pub counted_last : (room : ℕ) → get_or (answers room (empty 100) counting) 5 done ≡ answer 0 (1 ∷ 1 ∷ 11 ∷ []) []
unfolding everything
counted_last room = refl

-- STREAMS THAT ARE READ
abbrev pub types_stream : String → Bytes
types_stream inside = ascii "<Types xmlns='http://schemas.openxmlformats.org/package/2006/content-types'>" ++ (ascii inside ++ ascii "</Types>")

abbrev pub receiving : List Call
receiving =
    Changes (PutItem (ascii "/a.tif") (ascii "tile"))
    ∷ Changes (ReadTypes (types_stream "<Default Extension='tif' ContentType='image/tiff'/>"))
    ∷ Changes (ReadTypes (types_stream "<Default Extension='x' ContentType='y/z'/><Default Extension='TIF' ContentType='y/z'/>"))
    ∷ Changes (ReadRelationships (ascii "/A.TIF")
    (ascii "<Relationships xmlns='http://schemas.openxmlformats.org/package/2006/relationships'><Relationship Id='r1' Type='a:tile' Target='b.tif'/></Relationships>"))
    ∷ Looks Totals
    ∷ []

pub received_last : (room : ℕ) → get_or (answers room (empty 100) receiving) 4 done ≡ answer 0 (1 ∷ 1 ∷ 42 ∷ []) []
unfolding everything
received_last room = refl

-- A TILE CUT, JOINED AND CUT AGAIN
abbrev pub recutting : List Call
recutting =
    Changes (PutItem (ascii "/T.tif") (ascii "abcdefg"))
    ∷ CutPart (ascii "/t.TIF") 3
    ∷ Changes (JoinPart (ascii "/T.TIF"))
    ∷ CutPart (ascii "/t.tif") 2
    ∷ Looks (Find (ascii "/T.Tif/[1].LAST.piece"))
    ∷ []

pub recut_last : (room : ℕ) → get_or (answers room (empty 100) recutting) 4 done ≡ answer 0 (3 ∷ []) []
unfolding everything
recut_last room = refl

-- A MEDIA TYPE
abbrev pub typing : List Call
typing =
    Changes (PutItem (ascii "/a.tif") (ascii "tile"))
    ∷ Changes (PutDefault (ascii "tif") (ascii "image/tiff"))
    ∷ Changes (PutOverride (ascii "/A.TIF") (ascii "image/png"))
    ∷ Changes (DropOverride (ascii "/a.TIF"))
    ∷ []

typed_printed : (room size : ℕ) → printed (after room (empty 100) typing) size (MediaType (ascii "/A.tif")) ≡ Text tiff_type []
unfolding everything
typed_printed room size = refl

pub typed_last : (room : ℕ) (out : Bytes) → 10 ≤ length out → get_or (answers room (empty 100) (typing ++ Prints (MediaType (ascii "/A.tif")) out ∷ [])) 4 done ≡ wrote tiff_type out
unfolding answers after
typed_last room out h = ap (filled 1 out) (typed_printed room (length out)) ∙ wrote_fits tiff_type out h

-- HOW IT WAS ARRIVED AT
abbrev pub arguing : Bytes → List Call
arguing earlier =
    Changes (PutItem (ascii "/a.tif") (ascii "tile"))
    ∷ Changes (PutDefault (ascii "Tif") (ascii "image/tiff"))
    ∷ Changes (PutOverride (ascii "/A.TIF") (ascii "image/png"))
    ∷ TypeOrigin (ascii "/a.tif") earlier
    ∷ Changes (DropOverride (ascii "/a.tif"))
    ∷ []

argued_key : (room : ℕ) (earlier out : Bytes) → type_origin (after room (empty 100) (arguing earlier)) (ascii "/A.tif") out ≡ keyed 1 (ascii "Tif") out
unfolding everything
argued_key room earlier out = refl

pub argued_last : (room : ℕ) (earlier out : Bytes) → 3 ≤ length out →
    get_or (answers room (empty 100) (arguing earlier ++ TypeOrigin (ascii "/A.tif") out ∷ [])) 5 done ≡ by_default (ascii "Tif") out
unfolding answers after
argued_last room earlier out h = argued_key room earlier out ∙ keyed_fits 1 (ascii "Tif") out h

-- A PART IN PIECES
abbrev pub joining : Bytes → List Call
joining name =
    Changes (PutItem (ascii "/T/[1].LAST.piece") (ascii "cd"))
    ∷ Changes (PutItem (ascii "/t/[0].piece") (ascii "ab"))
    ∷ Prints (PartAt 0) name
    ∷ []

joined_printed : (room size : ℕ) (name : Bytes) → printed (after room (empty 100) (joining name)) size (ReadPart (ascii "/T") 1) ≡ Text (take size joined_from) []
unfolding everything
joined_printed room size name = refl

pub joined_last : (room : ℕ) (name out : Bytes) → 3 ≤ length out → get_or (answers room (empty 100) (joining name ++ Prints (ReadPart (ascii "/T") 1) out ∷ [])) 3 done ≡ wrote joined_from out
unfolding answers after
joined_last room name out h =
    ap (filled 1 out) (joined_printed room (length out) name ∙ ap (λ (t : Bytes). Text t []) (take_all (length out) joined_from h)) ∙ wrote_fits joined_from out h

-- A VIEW
abbrev pub viewing : List Call
viewing =
    Changes (PutItem (ascii "/a") (ascii "hello"))
    ∷ Changes (PutItem (ascii "/A") (ascii "other"))
    ∷ Changes (PutItem (ascii "/a/b") (ascii "grown"))
    ∷ Looks (View (ascii "/A"))
    ∷ []

pub viewed_last : (room : ℕ) → (get_or (answers room (empty 100) viewing) 3 done).output ≡ ascii "hello"
unfolding everything
viewed_last room = refl

-- RELATIONSHIPS
abbrev pub linking : List Call
linking =
    Changes (PutRelationship (ascii "/s") (ascii "r1") (ascii "a:tile") 0 (ascii "t"))
    ∷ Changes (PutRelationship (ascii "/s") (ascii "r2") (ascii "a:tile") 1 (ascii "u&v"))
    ∷ Changes (DropRelationship (ascii "/S") (ascii "r1"))
    ∷ []

linked_printed : (room size : ℕ) → printed (after room (empty 100) linking) size (WriteRelationships (ascii "/S")) ≡ Text linked_text []
unfolding everything
linked_printed room size = refl

pub linked_last : (room : ℕ) (out : Bytes) → 218 ≤ length out → get_or (answers room (empty 100) (linking ++ Prints (WriteRelationships (ascii "/S")) out ∷ [])) 3 done ≡ wrote linked_text out
unfolding answers after
linked_last room out h = ap (filled 1 out) (linked_printed room (length out)) ∙ wrote_fits linked_text out h
