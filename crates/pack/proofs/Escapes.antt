-- The authority of a pack IRI: what is escaped decodes to itself, has no byte that ends an authority, and is at most three times as long.
-- Assumes nothing.
use Prim.Native.Nat.{ℕ, ◌+◌, ◌≤◌, ◌*◌, suc, ◌<◌}
use mathlib.Core.Path.{◌≡◌, refl, sym, ap, ◌∙◌}
use mathlib.Core.Bool.{cond}
use mathlib.Core.List.{List, map, ◌++◌, ◌∷◌, [], append_assoc, append-nil}
use native.Mathlib.Numerals.{add-one}
use native.Mathlib.Omega.{arith}
use lib.Dec.{eqb}
use lib.ListN.{length, length-append, take, get_or}
use lib.Seq.{take-suc}
use borrow.Author.Tests.{ne_eqb}
use Rattle.chars.specs.Bytes.{slash, hex_digit, digit, percent, colon, number_sign, member}
use Rattle.chars.specs.Lists.{first_passing, index_of}
use Rattle.chars.specs.declared.search.Alphabet.TheVariants.{AuthorityEnd}
use Rattle.iri.specs.Components.{question, at_sign, comma}
use Rattle.pack.specs.Pack.{decoded, slashed, escape, low_triplet, escaped, package_of}
use Rattle.base.proofs.Cases.{by_value}

decode_one : (b : ℕ) (s : List ℕ) → decoded 0 (map slashed (escape b ++ s)) ≡ b ∷ decoded 0 (map slashed s)
unfolding escape slashed decoded low_triplet hex_digit digit
decode_one b s =
    let P : ℕ → Type 0 = λ (x : ℕ). decoded 0 (map slashed (escape x ++ s)) ≡ x ∷ decoded 0 (map slashed s) in
    by_value P b percent refl (λ a. by_value P b question refl (λ c. by_value P b at_sign refl (λ d. by_value P b colon refl (λ e. by_value P b comma refl (λ f. by_value P b slash refl (λ g.
    rw (ne_eqb b percent a, ne_eqb b question c, ne_eqb b at_sign d, ne_eqb b colon e, ne_eqb b comma f, ne_eqb b slash g, ne_eqb b comma f, ne_eqb b percent a)))))))

pub decode_escaped : (t : List ℕ) → package_of (escaped t) ≡ t
unfolding package_of escaped decoded
decode_escaped [] = refl
decode_escaped (b ∷ t) = decode_one b (escaped t) ∙ ap (λ (l : List ℕ). b ∷ l) (decode_escaped t)

pub escape_few : (b : ℕ) → length (escape b) ≤ 3
unfolding escape
escape_few b =
    let P : ℕ → Type 0 = λ (x : ℕ). length (escape x) ≤ 3 in
    by_value P b percent (omega arith) (λ a. by_value P b question (omega arith) (λ c. by_value P b at_sign (omega arith) (λ d. by_value P b colon (omega arith) (λ e. by_value P b comma (omega arith) (λ f. by_value P b slash (omega arith) (λ g.
    rw (ne_eqb b percent a, ne_eqb b question c, ne_eqb b at_sign d, ne_eqb b colon e, ne_eqb b comma f, ne_eqb b slash g) (omega arith)))))))

pub escaped_few : (t : List ℕ) → length (escaped t) ≤ 3 * length t
unfolding escaped
escaped_few [] = omega arith
escaped_few (b ∷ t) = rw (length-append (escape b) (escaped t)) (omega (arith, escape_few b, escaped_few t))

first_escape : (b : ℕ) (s : List ℕ) → (b ≡ number_sign → ⊥) → first_passing (member AuthorityEnd) (escape b ++ s) ≡ length (escape b) + first_passing (member AuthorityEnd) s
unfolding escape first_passing member
first_escape b s h =
    let P : ℕ → Type 0 = λ (x : ℕ). first_passing (member AuthorityEnd) (escape x ++ s) ≡ length (escape x) + first_passing (member AuthorityEnd) s in
    by_value P b percent (omega arith) (λ a. by_value P b question (omega arith) (λ c. by_value P b at_sign (omega arith) (λ d. by_value P b colon (omega arith) (λ e. by_value P b comma (omega arith) (λ f. by_value P b slash (omega arith) (λ g.
    rw (ne_eqb b percent a, ne_eqb b question c, ne_eqb b at_sign d, ne_eqb b colon e, ne_eqb b comma f, ne_eqb b slash g, ne_eqb b slash g, ne_eqb b question c, ne_eqb b number_sign h) (omega arith)))))))

-- no byte of t is a number sign
pub first_escaped : (t n : List ℕ) → index_of number_sign t ≡ length t → first_passing (member AuthorityEnd) (escaped t ++ n) ≡ length (escaped t) + first_passing (member AuthorityEnd) n
unfolding escaped first_passing
first_escaped [] n h = omega arith
first_escaped (b ∷ t) n h = by_value (λ (x : ℕ). cond (eqb x number_sign) 0 (suc (index_of number_sign t)) ≡ suc (length t) → first_passing (member AuthorityEnd) (escape x ++ escaped t ++ n) ≡ length (escape x ++ escaped t) + first_passing (member AuthorityEnd) n) b number_sign
    (λ e. absurd (omega arith))
    (λ d e. rw (append_assoc (escape b) (escaped t) n, first_escape b (escaped t ++ n) d, length-append (escape b) (escaped t))
    (omega (arith, first_escaped t n (let g : suc (index_of number_sign t) ≡ suc (length t) = rw (ne_eqb b number_sign d) at e in omega arith)))) h

-- a byte that is not replaced
pub escape_same : (b : ℕ) → (b ≡ percent → ⊥) → (b ≡ question → ⊥) → (b ≡ at_sign → ⊥) → (b ≡ colon → ⊥) → (b ≡ comma → ⊥) → (b ≡ slash → ⊥) → escape b ≡ b ∷ []
unfolding escape
escape_same b a c d e f g = rw (ne_eqb b percent a, ne_eqb b question c, ne_eqb b at_sign d, ne_eqb b colon e, ne_eqb b comma f, ne_eqb b slash g)

escaped_append : (a b : List ℕ) → escaped (a ++ b) ≡ escaped a ++ escaped b
unfolding escaped
escaped_append [] b = refl
escaped_append (x ∷ a) b = ap (λ (l : List ℕ). escape x ++ l) (escaped_append a b) ∙ sym (append_assoc (escape x) (escaped a) (escaped b))

pub escaped_more : (s : List ℕ) (i : ℕ) → i < length s → escaped (take (i + 1) s) ≡ escaped (take i s) ++ escape (get_or s i 0)
unfolding escaped
escaped_more s i h =
    ap (λ (n : ℕ). escaped (take n s)) (add-one i)
    ∙ ap escaped (take-suc s i 0 h)
    ∙ escaped_append (take i s) (get_or s i 0 ∷ [])
    ∙ ap (λ (l : List ℕ). escaped (take i s) ++ l) (append-nil (escape (get_or s i 0)))
