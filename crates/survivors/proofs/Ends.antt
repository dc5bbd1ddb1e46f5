-- Paths by the state where they end, and one label more or fewer at that end.
use Rattle.std.proofs.Common.{◌≡◌, ℕ, suc, ◌+◌, ◌*◌, ◌^◌, ◌<◌, List, [], ◌∷◌, ◌++◌, length, get_or, take, sym, ap, ◌∙◌, subst, add-one, arith, take-suc}
use native.Mathlib.Nat.{suc_inj}
use lib.Bits.{bit_xor, xor_lt}
use Rattle.std.proofs.lemmas.List.{length_push, take_all, length-take-le}
use Rattle.reception.specs.Accepted.{IsCode}
use Rattle.reception.specs.Worth.{Scores, label_worth, path_worth}
use Rattle.survivors.specs.Rows.{back, Enters}
use Rattle.trellis.specs.declared.Numbers.{Numbers}
use Rattle.trellis.specs.Numbers.{label_bits, polynomials}
use Rattle.trellis.specs.Parity.{syndrome, next_state}
use Rattle.trellis.specs.Path.{Leads}
use Rattle.trellis.specs.Transparency.{Labels, IsPath}
use Rattle.trellis.proofs.Gather.{double}
use Rattle.trellis.proofs.Polynomials.{AllBelow, syndrome-below, polynomials-below}
use Rattle.trellis.proofs.Turned.{xor-back}

-- The labels zs are a path of t symbols from state S to state E.
pub record Ends (n : Numbers) (t S E : ℕ) (zs : List ℕ) : Type 0 where
  pub state : S < 2 ^ n.memory
  pub labels : Labels n zs
  pub long : length zs ≡ t
  pub leads : Leads (polynomials n) S zs E

pub ends_path : {n : Numbers} {t S E : ℕ} {zs : List ℕ} → Ends n t S E zs → IsPath n t S zs
ends_path {E = E} p = record { state = p.state; labels = p.labels; long = p.long; leads = (E, p.leads) }

pub path_ends : {n : Numbers} {t S : ℕ} {zs : List ℕ} (p : IsPath n t S zs) (E : ℕ) → Leads (polynomials n) S zs E → Ends n t S E zs
path_ends p E l = record { state = p.state; labels = p.labels; long = p.long; leads = l }

-- The start and the labels fix the end.
pub end_sole : (hs : List ℕ) (S : ℕ) (zs : List ℕ) (E F : ℕ) → Leads hs S zs E → Leads hs S zs F → E ≡ F
end_sole hs S [] E F p q = sym p ∙ q
end_sole hs S (z ∷ zs) E F p q = end_sole hs (next_state hs S z) zs E F p.1 q.1

leads_push : (hs : List ℕ) (S : ℕ) (zs : List ℕ) (z E : ℕ) → Leads hs S zs (bit_xor (2 * E) (syndrome hs z)) → Leads hs S (zs ++ (z ∷ [])) E
leads_push hs S [] z E p =
    let x : bit_xor S (syndrome hs z) ≡ 2 * E = ap (λ (k : ℕ). bit_xor k (syndrome hs z)) p ∙ xor-back (2 * E) (syndrome hs z) in
    (omega arith, omega arith)
leads_push hs S (y ∷ zs) z E p = (p.0, leads_push hs (next_state hs S y) zs z E p.1)

leads_pop : (hs : List ℕ) (S : ℕ) (zs : List ℕ) (z E : ℕ) → Leads hs S (zs ++ (z ∷ [])) E → Leads hs S zs (bit_xor (2 * E) (syndrome hs z))
leads_pop hs S [] z E p =
    let even = p.0 in
    let next = p.1 in
    let x : bit_xor S (syndrome hs z) ≡ 2 * E = omega arith in
    sym (xor-back S (syndrome hs z)) ∙ ap (λ (k : ℕ). bit_xor k (syndrome hs z)) x
leads_pop hs S (y ∷ zs) z E p = (p.0, leads_pop hs (next_state hs S y) zs z E p.1)

labels_push : (n : Numbers) (zs : List ℕ) (z : ℕ) → Labels n zs → z < 2 ^ label_bits n → Labels n (zs ++ (z ∷ []))
labels_push n [] z p h = (h, tt)
labels_push n (y ∷ zs) z p h = (p.0, labels_push n zs z p.1 h)

labels_pop : (n : Numbers) (zs : List ℕ) (z : ℕ) → Labels n (zs ++ (z ∷ [])) → Labels n zs × (z < 2 ^ label_bits n)
labels_pop n [] z p = (tt, p.0)
labels_pop n (y ∷ zs) z p = let q = labels_pop n zs z p.1 in ((p.0, q.0), q.1)

-- States stay below 2^v.
leads_below : (hs : List ℕ) (v : ℕ) → AllBelow (v + 1) hs → (S : ℕ) (zs : List ℕ) (E : ℕ) → S < 2 ^ v → Leads hs S zs E → E < 2 ^ v
leads_below hs v below S [] E s p = rw (← p) s
leads_below hs v below S (z ∷ zs) E s p =
    let twice : 2 ^ (v + 1) ≡ 2 * 2 ^ v = ap (λ (k : ℕ). 2 ^ k) (add-one v) ∙ double v in
    let x : bit_xor S (syndrome hs z) < 2 ^ (v + 1) = xor_lt (v + 1) S (syndrome hs z) (omega arith) (syndrome-below (v + 1) hs below z) in
    leads_below hs v below (next_state hs S z) zs E (omega arith) p.1

pub end_below : {n : Numbers} {t S E : ℕ} {zs : List ℕ} → IsCode n → Ends n t S E zs → E < 2 ^ n.memory
end_below {n} {t} {S} {E} {zs} code p =
    leads_below (polynomials n) n.memory (polynomials-below n code.polynomials) S zs E p.state p.leads

-- One label more.
pub ends_push : {n : Numbers} {t S : ℕ} {zs : List ℕ} (E z : ℕ) → z < 2 ^ label_bits n → Ends n t S (back n E z) zs → Ends n (suc t) S E (zs ++ (z ∷ []))
ends_push {n} {t} {S} {zs} E z h p = record {
  state = p.state;
  labels = labels_push n zs z p.labels h;
  long = length_push zs z ∙ add-one (length zs) ∙ ap suc p.long;
  leads = leads_push (polynomials n) S zs z E p.leads;
}

-- A path of one symbol more: the path before it, and its last label.
pub record LastOff (n : Numbers) (t S E : ℕ) (zs : List ℕ) : Type 0 where
  pub front : List ℕ
  pub last : ℕ
  pub is : zs ≡ front ++ (last ∷ [])
  pub enters : Enters n E last
  pub before : Ends n t S (back n E last) front

pub last_off : {n : Numbers} {t S E : ℕ} {zs : List ℕ} → IsCode n → Ends n (suc t) S E zs → LastOff n t S E zs
last_off {n} {t} {S} {E} {zs} code p =
    let long = p.long in
    let front = take t zs in
    let last = get_or zs t 0 in
    let is : zs ≡ front ++ (last ∷ []) = sym (take_all (suc t) zs (omega arith)) ∙ take-suc zs t 0 (omega arith) in
    let labels = labels_pop n front last (subst (Labels n) is p.labels) in
    let before : Ends n t S (back n E last) front = record {
      state = p.state;
      labels = labels.0;
      long = length-take-le t zs (omega arith);
      leads = leads_pop (polynomials n) S front last E (subst (λ (k : List ℕ). Leads (polynomials n) S k E) is p.leads);
    } in
    record { front = front; last = last; is = is; enters = (labels.1, end_below code before); before = before }

-- The worth with one label more.
pub worth_push : (n : Numbers) (ss : List Scores) (s : Scores) (zs : List ℕ) (z : ℕ) → length zs ≡ length ss → path_worth n (ss ++ (s ∷ [])) (zs ++ (z ∷ [])) ≡ path_worth n ss zs + label_worth n s z
worth_push n [] s [] z e = omega arith
worth_push n [] s (y ∷ zs) z e = absurd (omega arith)
worth_push n (r ∷ ss) s [] z e = absurd (omega arith)
worth_push n (r ∷ ss) s (y ∷ zs) z e = let more = worth_push n ss s zs z (suc_inj e) in omega arith
