-- The step is the unit of the turnings that a code cannot tell apart, and the only power of two that is.
use Rattle.std.proofs.Common.{◌≡◌, ℕ, ◌+◌, ◌-◌, ◌*◌, ◌%◌, ◌^◌, ◌<◌, ◌≤◌, ltb, List, [], ◌∷◌, map, length, sym, refl, ap, ◌∙◌, ⊎_elim, mod-lt, mod-eq_of_lt, add_comm, arith, pow_pos}
use native.Mathlib.Nat.{mod_self, mod-add-mod}
use lib.Bits.{bit_xor, xor_lt}
use lib.Pow.{pow-lt}
use Rattle.std.proofs.lemmas.Simd.{map-map}
use Rattle.std.proofs.lemmas.List.{length-map}
use Rattle.std.proofs.lemmas.Bool.{cases_lt, cases_eq, cond-false, le-ltb}
use Rattle.trellis.specs.declared.Numbers.{Numbers}
use Rattle.trellis.specs.Mapper.{phase_at, turning_number, turned_label}
use Rattle.trellis.specs.Numbers.{label_bits, polynomials}
use Rattle.trellis.specs.Parity.{syndrome}
use Rattle.trellis.specs.Label.{put, turns_by}
use Rattle.trellis.specs.Rows.{label_rows}
use Rattle.trellis.specs.Step.{step_exponent, step}
use Rattle.trellis.specs.Transparency.{Labels, IsPath, Turned, Correspondence, Betrayed, Transparency}
use Rattle.trellis.specs.Words.{words_of}
use Rattle.trellis.proofs.CheckedTurns.{turning_polynomials}
use Rattle.trellis.proofs.Distinct.{distinct}
use Rattle.trellis.proofs.MapperLaws.{turns, phases_some}
use Rattle.trellis.proofs.ParityEquation.{parity_bit, syndromes, path_parity, parity_path}
use Rattle.trellis.proofs.StateShift.{Bounded, leads_shifted}
use Rattle.trellis.proofs.Turned.{Accepted, exponent_is, turned-below, turned-back, syndrome-turned, word_turned, bare_below, bare_syndrome, bare_turned, xor-back}
use Rattle.trellis.proofs.Turnings.{change, tell}

module _ (n : Numbers) (a : Accepted n) where
  bounded : (zs : List ℕ) → Labels n zs → Bounded (2 ^ label_bits n) zs
  bounded [] l = tt
  bounded (z ∷ zs) l = (l.0, bounded zs l.1)

  labels_turned : (r : ℕ) (zs : List ℕ) → Labels n (map (turned_label n r) zs)
  labels_turned r [] = tt
  labels_turned r (z ∷ zs) = (turned-below n a r z, labels_turned r zs)

  all_back : (r u : ℕ) → (r + u) % n.phases ≡ 0 → (zs : List ℕ) → Labels n zs → map (turned_label n u) (map (turned_label n r) zs) ≡ zs
  all_back r u e [] l = refl
  all_back r u e (z ∷ zs) l = λ i. turned-back n a r u z l.0 e i ∷ all_back r u e zs l.1 i

  phases_turned : (r : ℕ) (zs : List ℕ) → Turned n r zs (map (turned_label n r) zs)
  phases_turned r [] = tt
  phases_turned r (z ∷ zs) = (turns n a.sets r z, phases_turned r zs)

  words_turned : (r : ℕ) → r % step n ≡ 0 → (zs : List ℕ) → words_of n (map (turned_label n r) zs) ≡ words_of n zs
  words_turned r e [] = refl
  words_turned r e (y ∷ []) = refl
  words_turned r e (y ∷ z ∷ zs) = λ i. word_turned n a r y z e i ∷ words_turned r e (z ∷ zs) i

  -- a path whose labels change by f, which adds h to every syndrome, and whose states shift by K
  moved : (K h : ℕ) (f : ℕ → ℕ) → K < 2 ^ n.memory → bit_xor K h ≡ 2 * K → ((z : ℕ) → z < 2 ^ label_bits n → syndrome (polynomials n) (f z) ≡ bit_xor (syndrome (polynomials n) z) h) → ((zs : List ℕ) → Labels n (map f zs)) → (k S : ℕ) (zs : List ℕ) → IsPath n k S zs → IsPath n k (bit_xor S K) (map f zs)
  moved K h f small shifts adds labels k S zs p =
      record {
        state = xor_lt n.memory S K p.state small;
        labels = labels zs;
        long = length-map zs f ∙ p.long;
        leads = (bit_xor p.leads.0 K, leads_shifted (polynomials n) K h (2 ^ label_bits n) f shifts adds S zs p.leads.0 (bounded zs p.labels) p.leads.1);
      }

  pub alike : (r k : ℕ) → r % step n ≡ 0 → Correspondence n r k
  alike r k e =
      let M = n.phases in
      let C = change (turning_polynomials n) n.memory r a.check.small (ap (λ (x : ℕ). r % 2 ^ x) (sym (exponent_is n a)) ∙ e) in
      let K = C.K in
      let h = C.h in
      let u = M - r % M in
      let some = phases_some n a.sets in
      let rest : r % M < M = mod-lt r some in
      let full : r % M + u ≡ M = omega arith in
      let there : (r + u) % M ≡ 0 = sym (mod-add-mod r M u) ∙ ap (λ (x : ℕ). x % M) full ∙ mod_self M in
      let here : (u + r) % M ≡ 0 = ap (λ (x : ℕ). x % M) (add_comm u r) ∙ there in
      let adds : (z : ℕ) → z < 2 ^ label_bits n → syndrome (polynomials n) (turned_label n r z) ≡ bit_xor (syndrome (polynomials n) z) h = λ z l. syndrome-turned n a r z h l (C.adds (turning_number n z)) in
      let takes : (z : ℕ) → z < 2 ^ label_bits n → syndrome (polynomials n) (turned_label n u z) ≡ bit_xor (syndrome (polynomials n) z) h =
      λ z l. sym (xor-back (syndrome (polynomials n) (turned_label n u z)) h) ∙ ap (λ (x : ℕ). bit_xor x h) (sym (adds (turned_label n u z) (turned-below n a u z)) ∙ ap (syndrome (polynomials n)) (turned-back n a u r z l here)) in
      record {
        forth = λ S zs. (bit_xor S K, map (turned_label n r) zs);
        back = λ S zs. (bit_xor S K, map (turned_label n u) zs);
        forth_path = moved K h (turned_label n r) C.small C.shifts adds (labels_turned r) k;
        back_path = moved K h (turned_label n u) C.small C.shifts takes (labels_turned u) k;
        back_forth = λ S zs p. λ i. (xor-back S K i, all_back r u there zs p.labels i);
        forth_back = λ S zs p. λ i. (xor-back S K i, all_back u r here zs p.labels i);
        turned = λ S zs p. phases_turned r zs;
        words = λ S zs p. words_turned r e zs;
      }

  -- labels are known by the phases at their used places
  known : (y z : ℕ) → y < 2 ^ label_bits n → z < 2 ^ label_bits n → ((p : ℕ) → p < n.places → phase_at n y p ≡ phase_at n z p) → y ≡ z
  known y z hy hz same =
      let at : (p : ℕ) → phase_at n y p ≡ phase_at n z p =
      λ p. ⊎_elim (λ (u : p < n.places). same p u) (λ (u : n.places ≤ p). cond-false (ltb p n.places) _ _ (le-ltb _ _ u) ∙ sym (cond-false (ltb p n.places) _ _ (le-ltb _ _ u))) (cases_lt p n.places) in
      distinct n a.sets y z hy hz (λ i. at 0 i ∷ at 1 i ∷ at 2 i ∷ at 3 i ∷ [])

  pub turned_known : (r : ℕ) (zs ys : List ℕ) → Labels n ys → Turned n r zs ys → ys ≡ map (turned_label n r) zs
  turned_known r [] [] l t = refl
  turned_known r [] (y ∷ ys) l t = absurd t
  turned_known r (z ∷ zs) [] l t = absurd t
  turned_known r (z ∷ zs) (y ∷ ys) l t =
      λ i. known y (turned_label n r z) l.0 (turned-below n a r z) (λ p u. t.0 p u ∙ sym (turns n a.sets r z p u)) i ∷ turned_known r zs ys l.1 t.1 i

  bare_labels : (ts : List ℕ) → Labels n (map (λ t. put (turns_by 1) (label_rows n) t 0) ts)
  bare_labels [] = tt
  bare_labels (t ∷ ts) = (bare_below n a t, bare_labels ts)

  pub apart : (r : ℕ) → (r % step n ≡ 0 → ⊥) → Betrayed n r
  apart r ne =
      let v = n.memory in
      let hs = polynomials n in
      let ps = turning_polynomials n in
      let told = tell ps v r a.check.small a.check.some (λ e. ne (ap (λ (x : ℕ). r % 2 ^ x) (exponent_is n a) ∙ e)) in
      let ts = told.numbers in
      let zs : List ℕ = map (λ t. put (turns_by 1) (label_rows n) t 0) ts in
      let long : length zs ≡ v + 1 = length-map ts (λ t. put (turns_by 1) (label_rows n) t 0) ∙ told.long in
      let plain : parity_bit v (syndromes hs zs) ≡ 0 = ap (parity_bit v) (map-map (syndrome hs) (λ t. put (turns_by 1) (label_rows n) t 0) ts ∙ (λ i. map (λ t. bare_syndrome n a t i) ts)) ∙ told.plain in
      let start = parity_path hs v zs long plain in
      let after : parity_bit v (syndromes hs (map (turned_label n r) zs)) ≡ 1 =
      ap (parity_bit v) (map-map (syndrome hs) (turned_label n r) zs ∙ map-map (λ z. syndrome hs (turned_label n r z)) (λ t. put (turns_by 1) (label_rows n) t 0) ts ∙ (λ i. map (λ t. bare_turned n a r t i) ts)) ∙ told.turned in
      record {
        start = start.0;
        labels = zs;
        path = record { state = start.1; labels = bare_labels ts; long = long; leads = start.2 };
        none = λ S ys p t.
            let are = turned_known r zs ys p.labels t in
            let zero_bit = path_parity hs v S ys p.leads.0 p.state p.long p.leads.1 in
            let both : ◌≡◌ {A = ℕ} 1 0 = sym after ∙ ap (λ (l : List ℕ). parity_bit v (syndromes hs l)) (sym are) ∙ zero_bit in
            omega arith;
      }

  -- no turning is both alike and told
  clash : (r : ℕ) → Correspondence n r (n.memory + 1) → Betrayed n r → ⊥
  clash r c b =
      b.none (c.forth b.start b.labels).0 (c.forth b.start b.labels).1 (c.forth_path b.start b.labels b.path) (c.turned b.start b.labels b.path)

  left_over : (i j : ℕ) → i < j → 2 ^ i % 2 ^ j ≡ 0 → ⊥
  left_over i j l e =
      let less : 2 ^ i < 2 ^ j = pow-lt l in
      let some = pow_pos i in
      let whole : 2 ^ i % 2 ^ j ≡ 2 ^ i = mod-eq_of_lt less in
      omega arith

  pub transparency : Transparency n
  transparency =
      record {
        unit = record { alike = alike; apart = apart };
        only = λ e u.
            ⊎_elim
            (λ (l : e < step_exponent n). absurd (clash (2 ^ e) (u.alike (2 ^ e) (n.memory + 1) (mod_self (2 ^ e))) (apart (2 ^ e) (left_over e (step_exponent n) l))))
            (λ (g : step_exponent n ≤ e).
            ⊎_elim (λ (same : e ≡ step_exponent n). ap (λ (k : ℕ). 2 ^ k) same)
            (λ (other : e ≡ step_exponent n → ⊥). absurd (clash (step n) (alike (step n) (n.memory + 1) (mod_self (step n))) (u.apart (step n) (left_over (step_exponent n) e (omega arith)))))
            (cases_eq e (step_exponent n)))
            (cases_lt e (step_exponent n));
      }
