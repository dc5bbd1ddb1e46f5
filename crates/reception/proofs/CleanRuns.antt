-- A block that takes clean readings of labels: each is accepted, and the scores are sharp.
use Rattle.std.proofs.Common.{◌≡◌, ℕ, ◌+◌, ◌*◌, ◌%◌, ◌<◌, ◌≤◌, true, eqb, List, [], ◌∷◌, ◌++◌, length, get_or, sym, ap, ◌∙◌, subst, add_assoc, mod-lt, arith, length-append}
use native.Mathlib.Nat.{mod-add-mod}
use Rattle.std.proofs.lemmas.List.{append-nil, append_assoc}
use Rattle.std.proofs.lemmas.Bool.{cond-true, eq-eqb}
use Rattle.reception.specs.Accepted.{IsCode}
use Rattle.reception.specs.Answer.{taken, refused}
use Rattle.reception.specs.Block.{Block, block, takes, capacity, take_refusal, after}
use Rattle.reception.specs.Front.{FrontMeaning}
use Rattle.reception.specs.Reading.{place_reading, all_fit, turned_by, places_turned}
use Rattle.reception.specs.Turnings.{turned_reading, block_after, Run, IsClean, takes_of, takens}
use Rattle.reception.specs.Worth.{Scores, scores_of}
use Rattle.reception.proofs.CleanReadings.{Reads, AllReads, clean_long, clean_all_fit, clean_place}
use Rattle.reception.proofs.Codes.{some_phases}
use Rattle.reception.proofs.Differences.{complement, up_again}
use Rattle.reception.proofs.Refusals.{Takes, known_takes, turned_reading_lem, refusal_turned, after-taken}
use Rattle.reception.proofs.SharpScores.{Sharp, AllSharp}
use Rattle.reception.proofs.TurnedReadings.{turned_worth, worth_turned, place_turned}
use Rattle.trellis.specs.declared.Numbers.{Numbers}
use Rattle.trellis.specs.Mapper.{phase_at}

-- The readings wss are accepted by the block n ss of a receiver that is turned by t, and their scores are sharp at the
-- labels zs turned by r.
pub record TakesClean (cells t r : ℕ) (n : Numbers) (f : FrontMeaning) (ss : List Scores) (zs : List ℕ) (wss : List (List ℕ)) : Type 0 where
  pub accepted : Run cells t (block n ss) (takes_of f wss) (takens wss)
  pub scores : List Scores
  pub holds : block_after cells t (block n ss) (takes_of f wss) ≡ block n (ss ++ scores)
  pub sharp : AllSharp n r zs scores

module _ (n : Numbers) (c : IsCode n) (f : FrontMeaning) (d t : ℕ) where
  abbrev M : ℕ
  M = n.phases

  clean_size : (ws : List ℕ) → IsClean f n ws → length ws ≡ n.places * f.width M
  clean_size ws k = ap length k.reads ∙ clean_long f M k.phases k.below ∙ ap (λ (x : ℕ). x * f.width M) k.long

  clean_fits : (ws : List ℕ) → IsClean f n ws → all_fit f M n.places ws ≡ true
  clean_fits ws k = (λ i. all_fit f M (sym k.long i) (k.reads i)) ∙ clean_all_fit f M k.phases k.below

  -- the reading of a place, turned by t
  place_is : (z : ℕ) (ws : List ℕ) (k : Reads f n d z ws) (a : ℕ) → a < n.places → place_reading (f.width M) (places_turned f M t n.places ws) a ≡ turned_by f M t (f.clean M (get_or k.clean.phases a 0))
  place_is z ws k a few =
      let is = k.clean in
      place_turned f M t n.places ws a (clean_size ws is) few
      ∙ ap (turned_by f M t) (ap (λ (x : List ℕ). place_reading (f.width M) x a) is.reads ∙ clean_place f M is.phases a is.below (subst (λ (x : ℕ). a < x) (sym is.long) few))

  sharp_scores : (z : ℕ) (ws : List ℕ) → Reads f n d z ws → Sharp n (d + t) z (scores_of f M (places_turned f M t n.places ws))
  sharp_scores z ws k =
      let phase : ℕ → ℕ = λ a. get_or k.clean.phases a 0 in
      let below : (a : ℕ) → a < n.places → phase a < M = λ a few. subst (λ (x : ℕ). x < M) (sym (k.at a few)) (mod-lt (phase_at n z a + d) (some_phases n c)) in
      let on : (a : ℕ) → a < n.places → (phase_at n z a + (d + t)) % M ≡ (phase a + t) % M =
      λ a few. ap (λ (x : ℕ). x % M) (sym (add_assoc (phase_at n z a) d t)) ∙ sym (mod-add-mod (phase_at n z a + d) M t) ∙ ap (λ (x : ℕ). (x + t) % M) (sym (k.at a few)) in
      record {
        there = λ a few.
            let m = phase a in
            ap (λ (x : List ℕ). f.worth M x ((phase_at n z a + (d + t)) % M)) (place_is z ws k a few) ∙ ap (f.worth M (turned_by f M t (f.clean M m))) (on a few)
            ∙ turned_worth f M t (f.clean M m) m (f.clean_fit M m (below a few)) (below a few) ∙ f.clean_there M m (below a few);
        else = λ a m few h other.
            let p = phase a in
            let back = (m + complement M t) % M in
            subst (λ (x : ℕ). 1 ≤ x) (sym (ap (λ (x : List ℕ). f.worth M x m) (place_is z ws k a few) ∙ worth_turned f M t (f.clean M p) m (f.clean_fit M p (below a few)) h))
            (f.clean_else M p back (below a few) (mod-lt (m + complement M t) (some_phases n c)) (λ e. other (sym (up_again M t m h) ∙ ap (λ (x : ℕ). (x + t) % M) e ∙ sym (on a few))));
      }

  pub takes_clean : (cells : ℕ) (zs : List ℕ) (wss : List (List ℕ)) (ss : List Scores) → AllReads f n d zs wss → length ss + length zs ≤ capacity cells n → TakesClean cells t (d + t) n f ss zs wss
  takes_clean cells [] [] ss k room = record { accepted = tt; scores = []; holds = ap (block n) (sym (append-nil ss)); sharp = tt }
  takes_clean cells [] (ws ∷ wss) ss k room = absurd k
  takes_clean cells (z ∷ zs) [] ss k room = absurd k
  takes_clean cells (z ∷ zs) (ws ∷ wss) ss k room =
      let is = k.0.clean in
      let vs = turned_reading t (block n ss) f ws in
      let s = scores_of f M (places_turned f M t n.places ws) in
      let taking : Takes cells n (length ss) f ws = record { room = omega arith; long = clean_size ws is; fit = clean_fits ws is } in
      let nought : take_refusal cells (block n ss) f vs ≡ 0 = refusal_turned cells n ss f t ws ∙ known_takes cells n ss f ws taking in
      let next : after cells (block n ss) (takes f vs) ≡ block n (ss ++ (s ∷ [])) =
      after-taken cells n ss f vs nought ∙ ap (λ (x : List ℕ). block n (ss ++ (scores_of f M x ∷ []))) (turned_reading_lem cells n ss f t ws (clean_size ws is)) in
      let rest = takes_clean cells zs wss (ss ++ (s ∷ [])) k.1 (omega (arith, length-append ss (s ∷ []))) in
      record {
        accepted = (
          sym (cond-true (eqb (take_refusal cells (block n ss) f vs) 0) taken (refused (take_refusal cells (block n ss) f vs)) (eq-eqb _ _ nought)),
          subst (λ (b : Block). Run cells t b (takes_of f wss) (takens wss)) (sym next) rest.accepted,
        );
        scores = s ∷ rest.scores;
        holds = ap (λ (b : Block). block_after cells t b (takes_of f wss)) next ∙ rest.holds ∙ ap (block n) (append_assoc ss (s ∷ []) rest.scores);
        sharp = (sharp_scores z ws k.0, rest.sharp);
      }
