-- Clean readings of the phases of a symbol's places, and of labels whose phases are turned by d.
use Rattle.std.proofs.Common.{◌≡◌, ℕ, zero, suc, ◌+◌, ◌*◌, ◌%◌, ◌<◌, true, List, [], ◌∷◌, map, length, get_or, take, drop, sym, refl, ap, ◌∙◌, subst, ap₂, add-zero, mod-lt, mod-eq_of_lt, suc-mul, arith, length-append}
use Rattle.std.proofs.lemmas.List.{length-map, get_or-map, take_at, drop_at}
use Rattle.std.proofs.lemmas.Bool.{and_from}
use Rattle.reception.specs.Accepted.{IsCode}
use Rattle.reception.specs.CleanBurst.{clean_readings}
use Rattle.reception.specs.Front.{FrontMeaning}
use Rattle.reception.specs.Reading.{place_reading, all_fit, clean_reading, Phases}
use Rattle.reception.specs.Turnings.{IsClean, AllClean}
use Rattle.reception.proofs.Codes.{accepted, some_phases, phase_below}
use Rattle.trellis.specs.declared.Numbers.{Numbers}
use Rattle.trellis.specs.Mapper.{phase_at, symbol_of}
use Rattle.trellis.proofs.MapperLaws.{used_long, used_at}

module _ (f : FrontMeaning) (M : ℕ) where
  one_long : (m : ℕ) → m < M → length (f.clean M m) ≡ f.width M
  one_long m h = f.fit_long M (f.clean M m) (f.clean_fit M m h)

  -- the front and the rest of a clean reading
  clean_front : (m : ℕ) (ms : List ℕ) → m < M → take (f.width M) (clean_reading f M (m ∷ ms)) ≡ f.clean M m
  clean_front m ms h = take_at (f.clean M m) (clean_reading f M ms) (f.width M) (one_long m h)

  clean_rest : (m : ℕ) (ms : List ℕ) → m < M → drop (f.width M) (clean_reading f M (m ∷ ms)) ≡ clean_reading f M ms
  clean_rest m ms h = drop_at (f.clean M m) (clean_reading f M ms) (f.width M) (one_long m h)

  pub clean_long : (ms : List ℕ) → Phases M ms → length (clean_reading f M ms) ≡ length ms * f.width M
  clean_long [] p = omega arith
  clean_long (m ∷ ms) p =
      length-append (f.clean M m) (clean_reading f M ms) ∙ ap₂ (λ (x y : ℕ). x + y) (one_long m p.0) (clean_long ms p.1) ∙ omega (arith, suc-mul (length ms) (f.width M))

  pub clean_all_fit : (ms : List ℕ) → Phases M ms → all_fit f M (length ms) (clean_reading f M ms) ≡ true
  clean_all_fit [] p = refl
  clean_all_fit (m ∷ ms) p =
      and_from _ _ (ap (f.fit M) (clean_front m ms p.0) ∙ f.clean_fit M m p.0) (ap (all_fit f M (length ms)) (clean_rest m ms p.0) ∙ clean_all_fit ms p.1)

  pub clean_place : (ms : List ℕ) (a : ℕ) → Phases M ms → a < length ms → place_reading (f.width M) (clean_reading f M ms) a ≡ f.clean M (get_or ms a 0)
  clean_place [] a p h = absurd (omega arith)
  clean_place (m ∷ ms) zero p h = clean_front m ms p.0
  clean_place (m ∷ ms) (suc a) p h = ap (λ (l : List ℕ). place_reading (f.width M) l a) (clean_rest m ms p.0) ∙ clean_place ms a p.1 (omega arith)

phases_from : (M : ℕ) (ms : List ℕ) → ((a : ℕ) → a < length ms → get_or ms a 0 < M) → Phases M ms
phases_from M [] h = tt
phases_from M (m ∷ ms) h = (h 0 (omega arith), phases_from M ms (λ a l. h (suc a) (omega arith)))

-- A clean reading of the phases of label z, each d further on.
pub record Reads (f : FrontMeaning) (n : Numbers) (d z : ℕ) (ws : List ℕ) : Type 0 where
  pub clean : IsClean f n ws
  pub at : (a : ℕ) → a < n.places → get_or clean.phases a 0 ≡ (phase_at n z a + d) % n.phases

abbrev pub AllReads : FrontMeaning → Numbers → ℕ → List ℕ → List (List ℕ) → Type 0
AllReads f n d [] [] = Unit {0}
AllReads f n d [] (ws ∷ wss) = ⊥
AllReads f n d (z ∷ zs) [] = ⊥
AllReads f n d (z ∷ zs) (ws ∷ wss) = Reads f n d z ws × AllReads f n d zs wss

pub all_clean : (f : FrontMeaning) (n : Numbers) (d : ℕ) (zs : List ℕ) (wss : List (List ℕ)) → AllReads f n d zs wss → AllClean f n wss
all_clean f n d [] [] r = tt
all_clean f n d [] (ws ∷ wss) r = absurd r
all_clean f n d (z ∷ zs) [] r = absurd r
all_clean f n d (z ∷ zs) (ws ∷ wss) r = (r.0.clean, all_clean f n d zs wss r.1)

-- The clean readings of labels whose phases are all turned by d.
abbrev pub shifted_readings : FrontMeaning → Numbers → ℕ → List ℕ → List (List ℕ)
shifted_readings f n d [] = []
shifted_readings f n d (z ∷ zs) =
    clean_reading f n.phases (map (λ p. (p + d) % n.phases) (take n.places (symbol_of n z))) ∷ shifted_readings f n d zs

module _ (n : Numbers) (c : IsCode n) (f : FrontMeaning) where
  reads : (d z : ℕ) (ms : List ℕ) → length ms ≡ n.places → ((a : ℕ) → a < n.places → get_or ms a 0 ≡ (phase_at n z a + d) % n.phases) → Reads f n d z (clean_reading f n.phases ms)
  reads d z ms long at =
      let below : Phases n.phases ms = phases_from n.phases ms (λ a h. subst (λ (x : ℕ). x < n.phases) (sym (at a (omega arith))) (mod-lt (phase_at n z a + d) (some_phases n c))) in
      record { clean = record { phases = ms; long = long; below = below; reads = refl }; at = at }

  pub shifted_reads : (d : ℕ) (zs : List ℕ) → AllReads f n d zs (shifted_readings f n d zs)
  shifted_reads d [] = tt
  shifted_reads d (z ∷ zs) =
      let ms = take n.places (symbol_of n z) in
      let on : ℕ → ℕ = λ p. (p + d) % n.phases in
      let long = used_long n (accepted n c).sets z in
      (reads d z (map on ms) (length-map ms on ∙ long) (λ a h. get_or-map on ms a 0 0 (omega arith) ∙ ap on (used_at n (accepted n c).sets z a h)), shifted_reads d zs)

  pub sent_reads : (zs : List ℕ) → AllReads f n 0 zs (clean_readings f n zs)
  sent_reads [] = tt
  sent_reads (z ∷ zs) = (
    reads 0 z (take n.places (symbol_of n z)) (used_long n (accepted n c).sets z) (λ a h. used_at n (accepted n c).sets z a h ∙ sym (ap (λ (x : ℕ). x % n.phases) (add-zero (phase_at n z a)) ∙ mod-eq_of_lt (phase_below n c z a h))),
    sent_reads zs,
  )
