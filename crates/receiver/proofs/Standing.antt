-- A receiver with a block open, and what take answers then.
use Rattle.std.proofs.Common.{◌≡◌, ℕ, ◌+◌, ◌*◌, ◌/◌, ◌^◌, ◌<◌, ◌≤◌, Bool, true, false, cond, eqb, leb, List, [], ◌∷◌, ◌++◌, length, Some, None, Option, ok_or, Ok, sym, refl, ap, ◌∙◌, subst, mul-le-mul_right, div-mul-le_self, arith}
use Rattle.std.proofs.lemmas.Bool.{leb-false, eqb-true}
use Rattle.code.specs.declared.record.Code.{Code}
use Rattle.reception.specs.Block.{Block, no_block, block, takes, capacity, take_refusal, extended, after}
use Rattle.reception.specs.Front.{FrontMeaning}
use Rattle.reception.specs.Reading.{all_fit}
use Rattle.reception.specs.Worth.{Scores, scores_of}
use Rattle.receiver.specs.Refusal.{take_refusal_at}
use Rattle.receiver.specs.Stands.{Holds, StandsBy}
use Rattle.receiver.specs.declared.record.Progress.{Progress}
use Rattle.receiver.specs.declared.refusal.Refusal.TheVariants.{Closed}
use Rattle.survivors.specs.Best.{Survivor}
use Rattle.trellis.specs.declared.Numbers.{Numbers}

-- The block that a receiver with a code stands for.
pub record StandsFor {K : Type 0} (says : K → Survivor) (cs : List K) (c : Code) (count : ℕ) (b : Block) : Type 0 where
  pub scores : List Scores
  pub is : b ≡ block c.numbers scores
  pub counts : count ≡ length scores
  pub holds : Holds says cs c.numbers scores

-- The code that `ok_or` found.
pub open_is : (o : Option Code) (c : Code) → Ok c ≡ ok_or o Closed → o ≡ Some c
open_is None c e = cc
open_is (Some d) c e = cc

differ : (c : Code) (o : Option Code) → o ≡ None → o ≡ Some c → ⊥
differ c o p q = let z : ◌≡◌ {A = ℕ} 0 1 = cc in omega arith

same : (c d : Code) (o : Option Code) → o ≡ Some c → o ≡ Some d → c ≡ d
same c d o p q = cc

pub standing : {K : Type 0} (says : K → Survivor) (cs : List K) (p : Progress) (c : Code) (b : Block) → p.code ≡ Some c → StandsBy says cs p b → StandsFor says cs c p.count b
standing says cs p c no_block e s = absurd (differ c p.code s e)
standing says cs p c (block n ss) e s =
    let numbers : n ≡ c.numbers = sym s.0.2 ∙ ap (λ (k : Code). k.numbers) (same s.0.0 c p.code s.0.1 e) in
    record { scores = ss; is = ap (λ (m : Numbers). block m ss) numbers; counts = s.1; holds = subst (λ (m : Numbers). Holds says cs m ss) numbers s.2 }

pub stands_again : {K : Type 0} (says : K → Survivor) (cs : List K) (p : Progress) (c : Code) (ss : List Scores) → p.code ≡ Some c → p.count ≡ length ss → Holds says cs c.numbers ss → StandsBy says cs p (block c.numbers ss)
stands_again says cs p c ss e k h = ((c, e, refl), k, h)

module _ (cells : ℕ) (f : FrontMeaning) (ws : List ℕ) (n : Numbers) (ss : List Scores) (count : ℕ) (b : Block) (is : b ≡ block n ss) (counts : count ≡ length ss) where
  refusal_is : take_refusal cells b f ws ≡ take_refusal_at cells n count f ws
  refusal_is = ap (λ (x : Block). take_refusal cells x f ws) is ∙ ap (λ (k : ℕ). take_refusal_at cells n k f ws) (sym counts)

  pub take_more : 0 ≡ take_refusal_at cells n count f ws → after cells b (takes f ws) ≡ block n (ss ++ (scores_of f n.phases ws ∷ []))
  take_more why = ap (λ (r : ℕ). cond (eqb r 0) (extended b f ws) b) (refusal_is ∙ sym why) ∙ ap (λ (x : Block). extended x f ws) is

-- What is known of a reading that is taken.
pub record Takeable (cells : ℕ) (n : Numbers) (count : ℕ) (f : FrontMeaning) (ws : List ℕ) : Type 0 where
  pub room : count < capacity cells n
  pub long : length ws ≡ n.places * f.width n.phases
  pub fits : all_fit f n.phases n.places ws ≡ true

decide : (full sized fit : Bool) → ◌≡◌ {A = ℕ} 0 (cond full 22 (cond sized (cond fit 0 9) 8)) → (full ≡ false) × (sized ≡ true) × (fit ≡ true)
decide true sized fit e = absurd (omega arith)
decide false false fit e = absurd (omega arith)
decide false true false e = absurd (omega arith)
decide false true true e = (refl, refl, refl)

pub takeable : (cells : ℕ) (n : Numbers) (count : ℕ) (f : FrontMeaning) (ws : List ℕ) → 0 ≡ take_refusal_at cells n count f ws → Takeable cells n count f ws
takeable cells n count f ws why =
    let d = decide (leb (capacity cells n) count) (eqb (length ws) (n.places * f.width n.phases)) (all_fit f n.phases n.places ws) why in
    record { room = leb-false _ _ d.0; long = eqb-true _ _ d.1; fits = d.2 }

-- A block that is not full has room for one row more.
pub row_room : (cells : ℕ) (n : Numbers) (count : ℕ) → count < capacity cells n → ((count + 2) * 2 ^ n.memory ≤ cells) × (count < 256)
row_room cells n count l =
    let rows : count + 2 ≤ cells / 2 ^ n.memory = omega arith in
    let up = mul-le-mul_right (2 ^ n.memory) rows in
    let whole = div-mul-le_self cells (2 ^ n.memory) in (omega arith, omega arith)
