-- The root and what stands around it: what a stream gives, without what it says.
-- Assumes nothing.
use Prim.Native.Nat.{ℕ}
use native.Mathlib.Omega.{arith}
use mathlib.Core.Path.{◌≡◌, refl, ap, ◌∙◌}
use mathlib.Core.Bool.{Bool, true, false, cond}
use mathlib.Core.List.{List, [], ◌∷◌, ◌++◌}
use mathlib.Core.Logic.{inl, inr}
use lib.Dec.{eqb}
use lib.ListN.{length, get_or, drop}
use lib.Seq.{drop-append-le}
use Rattle.chars.specs.Lists.{begins, every}
use Rattle.markup.specs.Marks.{Outcome, On, Not, either, and_then}
use Rattle.markup.specs.Tags.{Tag, Started, Begun, NoTag, start_tag, end_tag, opens}
use Rattle.markup.specs.Elements.{between}
use Rattle.markup.specs.Entries.{Entry}
use Rattle.markup.specs.Streams.{Said, Says, Unread, entries_in, is_root, ended, closed_root, root_held, root_of, root_at, xml_declaration, after_declaration, said, form_of}
use Rattle.markup.specs.declared.entries.Kind.{Kind}
use Rattle.markup.proofs.Rests.{begins_within}
use Rattle.markup.proofs.Refusals.{EitherNumber, GivesSaid, said_gives}
use Rattle.markup.proofs.Fronts.{begins_other}
use Rattle.markup.proofs.Remains.{Remains, remains_all, remains_drop}
use Rattle.markup.proofs.PiecesTwenty.{outcome_of, where_outcome, choose_outcome, entries_end}

-- THE END of the stream
abbrev pub stop_end : Outcome → Outcome
stop_end (On []) = On []
stop_end (On (b ∷ s)) = Not 19
stop_end (Not n) = Not n

abbrev pub closed_end : Tag → Outcome → Outcome
closed_end g o = stop_end (and_then (and_then o (end_tag g.name)) (between false))

abbrev pub root_end : Kind → Started → Outcome
root_end K (Begun g s) = either (is_root K g) (either g.empty (stop_end (between false s)) (closed_end g (entries_end K (length s) s))) (Not 19)
root_end K NoTag = Not 19

abbrev pub root_on : Kind → List ℕ → Outcome
root_on K t = either (opens t) (root_end K (start_tag (drop 1 t))) (Not 19)

ended_outcome : (es : List Entry) (o : Outcome) → outcome_of (ended es o) ≡ stop_end o
ended_outcome es (On []) = refl
ended_outcome es (On (b ∷ s)) = refl
ended_outcome es (Not n) = refl

closed_outcome : (g : Tag) (x : Said) → outcome_of (closed_root g.name x) ≡ closed_end g (outcome_of x)
closed_outcome g (Says es s) = ended_outcome es (and_then (end_tag g.name s) (between false))
closed_outcome g (Unread n) = refl

root_outcome : (K : Kind) (x : Started) → outcome_of (root_of K x) ≡ root_end K x
root_outcome K (Begun g s) =
    choose_outcome (is_root K g) (root_held K g s) (Unread 19) ∙ ap (λ (o : Outcome). either (is_root K g) o (Not 19))
    (choose_outcome g.empty (ended [] (between false s)) (closed_root g.name (entries_in K (length s) s)) ∙ go g.empty)
  where
    go : (b : Bool) → either b (outcome_of (ended [] (between false s))) (outcome_of (closed_root g.name (entries_in K (length s) s)))
        ≡ either b (stop_end (between false s)) (closed_end g (entries_end K (length s) s))
    go true = ended_outcome [] (between false s)
    go false = closed_outcome g (entries_in K (length s) s)
root_outcome K NoTag = refl

pub said_outcome : (K : Kind) (s : List ℕ) → outcome_of (said K s) ≡ and_then (between false (after_declaration s)) (root_on K)
unfolding said
said_outcome K s = where_outcome (between false (after_declaration s)) (root_at K) ∙ go (between false (after_declaration s))
  where
    on : (t : List ℕ) → outcome_of (root_at K t) ≡ root_on K t
    on t = choose_outcome (opens t) (root_of K (start_tag (drop 1 t))) (Unread 19)
        ∙ ap (λ (o : Outcome). either (opens t) o (Not 19)) (root_outcome K (start_tag (drop 1 t)))

    go : (o : Outcome) → and_then o (λ (t : List ℕ). outcome_of (root_at K t)) ≡ and_then o (root_on K)
    go (On t) = on t
    go (Not n) = refl

-- THE NUMBERS
pub form_on : (x : Said) (t : List ℕ) → outcome_of x ≡ On t → form_of x ≡ 0
form_on (Says es s) t e = refl
form_on (Unread n) t e = absurd (let z : ◌≡◌ {A = ℕ} 0 1 = cc in omega arith)

pub form_not : (x : Said) (n : ℕ) → outcome_of x ≡ Not n → form_of x ≡ n
form_not (Says es s) n e = absurd (let z : ◌≡◌ {A = ℕ} 0 1 = cc in omega arith)
form_not (Unread m) n e = cc

pub form_twenty : (x : Said) → form_of x ≡ 20 → outcome_of x ≡ Not 20
form_twenty (Says es s) e = absurd (omega arith)
form_twenty (Unread n) e = ap Not e

pub record Accepts (K : Kind) (s : List ℕ) : Type 0 where
  pub rest : List ℕ
  pub is : outcome_of (said K s) ≡ On rest

pub form_accepts : (K : Kind) (s : List ℕ) → form_of (said K s) ≡ 0 → Accepts K s
form_accepts K s e = go (said K s) refl (said_gives EitherNumber (inl refl) (inr refl) K s) e
  where
    never : (n : ℕ) → EitherNumber n → n ≡ 0 → ⊥
    never n (inl f) z = omega arith
    never n (inr f) z = omega arith

    go : (x : Said) → said K s ≡ x → GivesSaid EitherNumber (inl refl) (inr refl) x → form_of x ≡ 0 → Accepts K s
    go (Says es t) f w z = record { rest = t; is = ap outcome_of f }
    go (Unread n) f w z = absurd (never n w z)

-- THE DECLARATION before a `<` that no `?` follows
pub declaration_front : (p r : List ℕ) → eqb (get_or r 0 0) 63 ≡ false → after_declaration (p ++ (60 ∷ r)) ≡ after_declaration p ++ (60 ∷ r)
unfolding every
declaration_front p r n = rw (begins_other 63 (drop 2 xml_declaration) refl p r n) (go (begins xml_declaration p) refl)
  where
    go : (b : Bool) → begins xml_declaration p ≡ b → cond b (drop (length xml_declaration) (p ++ (60 ∷ r))) (p ++ (60 ∷ r))
        ≡ cond b (drop (length xml_declaration) p) p ++ (60 ∷ r)
    go true f = drop-append-le (length xml_declaration) p (60 ∷ r) (begins_within xml_declaration p f)
    go false f = refl

pub declaration_remains : (s : List ℕ) → Remains s (after_declaration s)
declaration_remains s = go (begins xml_declaration s)
  where
    go : (b : Bool) → Remains s (cond b (drop (length xml_declaration) s) s)
    go true = remains_drop (length xml_declaration) s
    go false = remains_all s
