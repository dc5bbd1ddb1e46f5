-- Readings that are turned, place by place: their length, their fitness, and their worths.
use Rattle.std.proofs.Common.{◌≡◌, ℕ, zero, suc, ◌+◌, ◌*◌, ◌%◌, ◌<◌, true, ◌&&◌, List, length, take, drop, sym, refl, ap, ◌∙◌, ap₂, add-zero, add-suc, mod-lt, mod-eq_of_lt, suc-mul, add-one, arith, length-append, length-drop}
use native.Mathlib.Nat.{mod-add-mod}
use Rattle.std.proofs.lemmas.List.{length-take-le, take_at, drop_at}
use Rattle.std.proofs.lemmas.Bool.{and_parts}
use Rattle.reception.specs.Front.{FrontMeaning}
use Rattle.reception.specs.Reading.{place_reading, all_fit, turned_by, places_turned}
use Rattle.reception.proofs.Differences.{complement, up_again}

module _ (f : FrontMeaning) (M : ℕ) where
  abbrev W : ℕ
  W = f.width M

  -- One place.
  pub turned_long : (t : ℕ) (ws : List ℕ) → length (turned_by f M t ws) ≡ length ws
  turned_long zero ws = refl
  turned_long (suc t) ws = f.turn_long M (turned_by f M t ws) ∙ turned_long t ws

  pub turned_fit : (t : ℕ) (ws : List ℕ) → f.fit M (turned_by f M t ws) ≡ f.fit M ws
  turned_fit zero ws = refl
  turned_fit (suc t) ws = f.turn_fit M (turned_by f M t ws) ∙ turned_fit t ws

  -- The worth of a phase t further on is then what the worth of the phase was,
  pub turned_worth : (t : ℕ) (ws : List ℕ) (m : ℕ) → f.fit M ws ≡ true → m < M → f.worth M (turned_by f M t ws) ((m + t) % M) ≡ f.worth M ws m
  turned_worth zero ws m fit h = ap (f.worth M ws) (ap (λ (x : ℕ). x % M) (add-zero m) ∙ mod-eq_of_lt h)
  turned_worth (suc t) ws m fit h =
      let x = (m + t) % M in
      let on : (x + 1) % M ≡ (m + suc t) % M = mod-add-mod (m + t) M 1 ∙ ap (λ (y : ℕ). y % M) (add-one (m + t) ∙ sym (add-suc m t)) in
      ap (f.worth M (turned_by f M (suc t) ws)) (sym on) ∙ f.turn_worth M (turned_by f M t ws) x (turned_fit t ws ∙ fit) (mod-lt (m + t) (omega arith)) ∙ turned_worth t ws m fit h

  -- and the worth of a phase is what that of the phase t further back was.
  pub worth_turned : (t : ℕ) (ws : List ℕ) (m : ℕ) → f.fit M ws ≡ true → m < M → f.worth M (turned_by f M t ws) m ≡ f.worth M ws ((m + complement M t) % M)
  worth_turned t ws m fit h =
      ap (f.worth M (turned_by f M t ws)) (sym (up_again M t m h)) ∙ turned_worth t ws ((m + complement M t) % M) fit (mod-lt (m + complement M t) (omega arith))

  -- All places of a reading of their length.
  front_long : (k : ℕ) (ws : List ℕ) → length ws ≡ suc k * W → length (take W ws) ≡ W
  front_long k ws e = length-take-le W ws (omega (arith, suc-mul k W))

  rest_long : (k : ℕ) (ws : List ℕ) → length ws ≡ suc k * W → length (drop W ws) ≡ k * W
  rest_long k ws e = length-drop W ws ∙ omega (arith, suc-mul k W)

  pub places_long : (t k : ℕ) (ws : List ℕ) → length ws ≡ k * W → length (places_turned f M t k ws) ≡ length ws
  places_long t zero ws e = refl
  places_long t (suc k) ws e =
      let front = turned_long t (take W ws) ∙ front_long k ws e in
      let rest = places_long t k (drop W ws) (rest_long k ws e) ∙ rest_long k ws e in
      length-append (turned_by f M t (take W ws)) (places_turned f M t k (drop W ws)) ∙ ap₂ (λ (x y : ℕ). x + y) front rest ∙ omega (arith, suc-mul k W)

  -- Its front and the rest.
  turned_front : (t k : ℕ) (ws : List ℕ) → length ws ≡ suc k * W → take W (places_turned f M t (suc k) ws) ≡ turned_by f M t (take W ws)
  turned_front t k ws e = take_at (turned_by f M t (take W ws)) (places_turned f M t k (drop W ws)) W (turned_long t (take W ws) ∙ front_long k ws e)

  turned_rest : (t k : ℕ) (ws : List ℕ) → length ws ≡ suc k * W → drop W (places_turned f M t (suc k) ws) ≡ places_turned f M t k (drop W ws)
  turned_rest t k ws e = drop_at (turned_by f M t (take W ws)) (places_turned f M t k (drop W ws)) W (turned_long t (take W ws) ∙ front_long k ws e)

  pub places_fit : (t k : ℕ) (ws : List ℕ) → length ws ≡ k * W → all_fit f M k (places_turned f M t k ws) ≡ all_fit f M k ws
  places_fit t zero ws e = refl
  places_fit t (suc k) ws e =
      ap₂ ◌&&◌ (ap (f.fit M) (turned_front t k ws e) ∙ turned_fit t (take W ws))
      (ap (all_fit f M k) (turned_rest t k ws e) ∙ places_fit t k (drop W ws) (rest_long k ws e))

  pub place_turned : (t k : ℕ) (ws : List ℕ) (a : ℕ) → length ws ≡ k * W → a < k → place_reading W (places_turned f M t k ws) a ≡ turned_by f M t (place_reading W ws a)
  place_turned t zero ws a e h = absurd (omega arith)
  place_turned t (suc k) ws zero e h = turned_front t k ws e
  place_turned t (suc k) ws (suc a) e h =
      ap (λ (l : List ℕ). place_reading W l a) (turned_rest t k ws e) ∙ place_turned t k (drop W ws) a (rest_long k ws e) (omega arith)

  pub place_fit : (k : ℕ) (ws : List ℕ) (a : ℕ) → all_fit f M k ws ≡ true → a < k → f.fit M (place_reading W ws a) ≡ true
  place_fit zero ws a e h = absurd (omega arith)
  place_fit (suc k) ws zero e h = (and_parts _ _ e).0
  place_fit (suc k) ws (suc a) e h = place_fit k (drop W ws) a (and_parts (f.fit M (take W ws)) (all_fit f M k (drop W ws)) e).1 (omega arith)
