-- The labels of a burst carry its words: what is read between them is what was sent.
use Rattle.std.proofs.Common.{◌≡◌, ℕ, suc, ◌+◌, ◌-◌, ◌*◌, ◌/◌, ◌%◌, ◌^◌, ◌<◌, Bool, true, List, [], ◌∷◌, length, drop, sym, refl, ap, ◌∙◌, subst, mod-eq_of_lt, arith, pow_pos}
use native.Mathlib.Nat.{mod-add-mod, add-mod_right}
use lib.Bits.{bit_xor}
use Rattle.std.proofs.lemmas.Bool.{not-true, true≢false}
use Rattle.reception.specs.Accepted.{IsCode}
use Rattle.reception.specs.CleanBurst.{DataWords}
use Rattle.reception.proofs.Codes.{accepted}
use Rattle.trellis.specs.Burst.{labels_from, Carry, Rises}
use Rattle.trellis.specs.declared.Numbers.{Numbers}
use Rattle.trellis.specs.declared.Row.{Row}
use Rattle.trellis.specs.Label.{Agree, gather, put, turns_by}
use Rattle.trellis.specs.Numbers.{label_bits, word_bits, polynomials}
use Rattle.trellis.specs.Parity.{next_state}
use Rattle.trellis.specs.Path.{Leads}
use Rattle.trellis.specs.Precoder.{differential, placed, risen}
use Rattle.trellis.specs.Rows.{label_rows}
use Rattle.trellis.specs.Step.{step, differential_bits}
use Rattle.trellis.specs.Transparency.{Labels, IsPath}
use Rattle.trellis.specs.Words.{rise, word_between, words_of}
use Rattle.trellis.proofs.BurstLaws.{burst_law}
use Rattle.trellis.proofs.Gather.{double, bit_below, high_bits, gather_other, put_other}
use Rattle.trellis.proofs.OneLabel.{head_free, put_sole}
use Rattle.trellis.proofs.Syndromes.{syndrome-zero, put-put, put-gather}
use Rattle.trellis.proofs.Turned.{differential-below, gather_nothing}

-- A word comes back from a label that agrees with it, once its own number is put at the marked places.
word_back : (marked : Row → Bool) (rows : List Row) (w z : ℕ) → head_free marked rows ≡ true → placed w < 2 ^ length rows → z < 2 ^ length rows → Agree marked (drop 1 rows) (placed w / 2) (z / 2) → put marked rows (gather marked rows (placed w)) z / 2 ≡ w
word_back marked [] w z free small below agrees = absurd (true≢false (sym free))
word_back marked (r ∷ rs) w z free small below agrees =
    let m = not-true (marked r) free in
    let twice = double (length rs) in
    let g = gather marked (r ∷ rs) (placed w) in
    let half : placed w / 2 ≡ w = omega arith in
    let high : z / 2 ≡ put marked rs (gather marked rs (z / 2)) (placed w / 2) = put_sole marked rs (gather marked rs (z / 2)) (placed w / 2) (z / 2) (omega arith) refl agrees in
    ap (λ (x : ℕ). x / 2) (put_other marked r rs g z m) ∙ high_bits (z % 2) (put marked rs g (z / 2)) (bit_below z)
    ∙ ap (put marked rs g) high ∙ put-put marked rs g (gather marked rs (z / 2)) (placed w / 2)
    ∙ ap (λ (x : ℕ). put marked rs x (placed w / 2)) (gather_other marked r rs (placed w) m) ∙ put-gather marked rs (placed w / 2) (omega arith) ∙ half

-- What was added modulo m, less what it was added to.
rise-back : (V w m : ℕ) → V < m → w < m → ((V + w) % m + (m - V)) % m ≡ w
rise-back V w m v-small w-small =
    let sum : V + w + (m - V) ≡ w + m = omega arith in
    mod-add-mod (V + w) m (m - V) ∙ ap (λ (x : ℕ). x % m) sum ∙ add-mod_right w m ∙ mod-eq_of_lt w-small

module _ (n : Numbers) (c : IsCode n) where
  one_word : (y z w : ℕ) → w < 2 ^ word_bits n → z < 2 ^ label_bits n → Agree (turns_by (step n)) (drop 1 (label_rows n)) (placed w / 2) (z / 2) → differential n z ≡ risen n (differential n y) w → word_between n y z ≡ w
  one_word y z w small below agrees rises =
      let a = accepted n c in
      let s = a.sender in
      let m = 2 ^ differential_bits n in
      let rows = label_rows n in
      let up : rise n y z ≡ differential n (placed w) =
      ap (λ (x : ℕ). (x + (m - differential n y)) % m) rises ∙ rise-back (differential n y) (differential n (placed w)) m (differential-below n a y) (differential-below n a (placed w)) in
      let least = s.least in
      let more : label_bits n ≡ suc (word_bits n) = omega arith in
      let wide : 2 ^ label_bits n ≡ 2 * 2 ^ word_bits n = ap (λ (k : ℕ). 2 ^ k) more ∙ double (word_bits n) in
      let placed_below : placed w < 2 ^ label_bits n = omega arith in
      let long = sym s.long in
      ap (λ (x : ℕ). put (turns_by (step n)) rows x z / 2) up
      ∙ word_back (turns_by (step n)) rows w z s.free (subst (λ (k : ℕ). placed w < 2 ^ k) long placed_below) (subst (λ (k : ℕ). z < 2 ^ k) long below) agrees

  words_back : (y : ℕ) (ws zs : List ℕ) → DataWords n ws → Carry n ws zs → Rises n (differential n y) ws zs → words_of n (y ∷ zs) ≡ ws
  words_back y [] [] d k r = refl
  words_back y [] (z ∷ zs) d k r = absurd k
  words_back y (w ∷ ws) [] d k r = absurd k
  words_back y (w ∷ ws) (z ∷ zs) d k r = λ i. one_word y z w d.0 k.0 k.1 r.0 i ∷ words_back z ws zs d.1 k.2 r.1 i

  -- A burst begins with label 0.
  pub sent_words : (ws : List ℕ) → DataWords n ws → words_of n (0 ∷ labels_from n 0 0 ws) ≡ ws
  sent_words ws d =
      let law = (burst_law n (accepted n c).sender ws).0 in
      words_back 0 ws (labels_from n 0 0 ws) d law.carry
      (subst (λ (V : ℕ). Rises n V ws (labels_from n 0 0 ws)) (sym (gather_nothing (turns_by (step n)) (label_rows n))) law.rises)

  carried_labels : (ws zs : List ℕ) → Carry n ws zs → Labels n zs
  carried_labels [] [] k = tt
  carried_labels [] (z ∷ zs) k = absurd k
  carried_labels (w ∷ ws) [] k = absurd k
  carried_labels (w ∷ ws) (z ∷ zs) k = (k.0, carried_labels ws zs k.2)

  carried_long : (ws zs : List ℕ) → Carry n ws zs → length zs ≡ length ws
  carried_long [] [] k = refl
  carried_long [] (z ∷ zs) k = absurd k
  carried_long (w ∷ ws) [] k = absurd k
  carried_long (w ∷ ws) (z ∷ zs) k = ap suc (carried_long ws zs k.2)

  pub sent_long : (ws : List ℕ) → length (labels_from n 0 0 ws) ≡ length ws
  sent_long ws = carried_long ws (labels_from n 0 0 ws) (burst_law n (accepted n c).sender ws).0.carry

  pub sent_path : (ws : List ℕ) (k : ℕ) → length ws + 1 ≡ k → IsPath n k 0 (0 ∷ labels_from n 0 0 ws)
  sent_path ws k e =
      let law = (burst_law n (accepted n c).sender ws).0 in
      let hs = polynomials n in
      let still : next_state hs 0 0 ≡ 0 = ap (λ (x : ℕ). bit_xor 0 x / 2) (syndrome-zero hs) in
      let many = sent_long ws in
      record {
        state = pow_pos n.memory;
        labels = (pow_pos (label_bits n), carried_labels ws (labels_from n 0 0 ws) law.carry);
        long = omega arith;
        leads = (law.path.0, (ap (λ (x : ℕ). bit_xor 0 x % 2) (syndrome-zero hs), subst (λ (S : ℕ). Leads hs S (labels_from n 0 0 ws) law.path.0) (sym still) law.path.1));
      }
