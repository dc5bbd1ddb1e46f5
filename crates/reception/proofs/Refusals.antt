-- When a block takes a reading, and that a turning does not change it.
use Rattle.std.proofs.Common.{◌≡◌, ℕ, ◌*◌, ◌<◌, Bool, true, false, cond, eqb, leb, List, [], ◌∷◌, ◌++◌, length, refl, ap, ◌∙◌, ap₂, ⊎_elim, arith}
use Rattle.std.proofs.lemmas.Bool.{cases_Bool, cond-true, cond-false, eqb-true, eq-eqb, leb-false, lt-leb}
use Rattle.reception.specs.Block.{block, takes, capacity, take_refusal, after}
use Rattle.reception.specs.Front.{FrontMeaning}
use Rattle.reception.specs.Reading.{all_fit, places_turned}
use Rattle.reception.specs.Turnings.{turned_reading}
use Rattle.reception.specs.Worth.{Scores, scores_of}
use Rattle.reception.proofs.TurnedReadings.{places_long, places_fit}
use Rattle.trellis.specs.declared.Numbers.{Numbers}
use Rattle.trellis.proofs.Sets.{unless-none}

-- A test that is not met, if the answer is not its refusal.
pub miss : (b : Bool) (x y : ℕ) → 0 < x → cond b x y ≡ 0 → (b ≡ false) × (y ≡ 0)
miss true x y some e = absurd (omega arith)
miss false x y some e = (refl, e)

-- The reading is one of the block's code, and there is room for it.
pub record Takes (cells : ℕ) (n : Numbers) (symbols : ℕ) (f : FrontMeaning) (ws : List ℕ) : Type 0 where
  pub room : symbols < capacity cells n
  pub long : length ws ≡ n.places * f.width n.phases
  pub fit : all_fit f n.phases n.places ws ≡ true

module _ (cells : ℕ) (n : Numbers) (ss : List Scores) (f : FrontMeaning) where
  pub takes_known : (ws : List ℕ) → take_refusal cells (block n ss) f ws ≡ 0 → Takes cells n (length ss) f ws
  takes_known ws e =
      let room = miss (leb (capacity cells n) (length ss)) 22 _ (omega arith) e in
      let long = unless-none (eqb (length ws) (n.places * f.width n.phases)) 8 _ (omega arith) room.1 in
      let fit = unless-none (all_fit f n.phases n.places ws) 9 0 (omega arith) long.1 in
      record { room = leb-false _ _ room.0; long = eqb-true _ _ long.0; fit = fit.0 }

  pub known_takes : (ws : List ℕ) → Takes cells n (length ss) f ws → take_refusal cells (block n ss) f ws ≡ 0
  known_takes ws t =
      cond-false (leb (capacity cells n) (length ss)) _ _ (lt-leb _ _ t.room)
      ∙ cond-true (eqb (length ws) (n.places * f.width n.phases)) _ _ (eq-eqb _ _ t.long) ∙ cond-true (all_fit f n.phases n.places ws) _ _ t.fit

  -- A reading of the code's length is turned place by place, and any other stays.
  pub turned_reading_lem : (t : ℕ) (ws : List ℕ) → length ws ≡ n.places * f.width n.phases → turned_reading t (block n ss) f ws ≡ places_turned f n.phases t n.places ws
  turned_reading_lem t ws e = cond-true (eqb (length ws) (n.places * f.width n.phases)) _ _ (eq-eqb _ _ e)

  pub refusal_turned : (t : ℕ) (ws : List ℕ) → take_refusal cells (block n ss) f (turned_reading t (block n ss) f ws) ≡ take_refusal cells (block n ss) f ws
  refusal_turned t ws =
      ⊎_elim
      (λ (e : eqb (length ws) (n.places * f.width n.phases) ≡ true).
      let M = n.phases in
      let long = eqb-true (length ws) (n.places * f.width M) e in
      ap (take_refusal cells (block n ss) f) (turned_reading_lem t ws long)
      ∙ ap₂ (λ (k : ℕ) (fit : Bool). cond (leb (capacity cells n) (length ss)) 22 (cond (eqb k (n.places * f.width M)) (cond fit 0 9) 8))
      (places_long f M t n.places ws long) (places_fit f M t n.places ws long))
      (λ (e : eqb (length ws) (n.places * f.width n.phases) ≡ false). ap (take_refusal cells (block n ss) f) (cond-false (eqb (length ws) (n.places * f.width n.phases)) _ _ e))
      (cases_Bool (eqb (length ws) (n.places * f.width n.phases)))

  -- The block after a reading that is taken, or refused.
  pub after-taken : (ws : List ℕ) → take_refusal cells (block n ss) f ws ≡ 0 → after cells (block n ss) (takes f ws) ≡ block n (ss ++ (scores_of f n.phases ws ∷ []))
  after-taken ws e = cond-true (eqb (take_refusal cells (block n ss) f ws) 0) _ _ (eq-eqb _ _ e)

  pub after-refused : (ws : List ℕ) → eqb (take_refusal cells (block n ss) f ws) 0 ≡ false → after cells (block n ss) (takes f ws) ≡ block n ss
  after-refused ws e = cond-false (eqb (take_refusal cells (block n ss) f ws) 0) _ _ e
