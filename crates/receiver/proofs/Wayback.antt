-- The loop that traces back and writes the data words.
use Rattle.std.proofs.Common.{◌≡◌, ℕ, suc, ◌+◌, ◌-◌, ◌*◌, ◌^◌, ◌<◌, ◌≤◌, List, [], ◌∷◌, ◌++◌, length, drop, set, sym, refl, ap, ◌∙◌, subst, append_assoc, mul-le-mul_right, add-mul, one-mul, add-one, arith}
use Rattle.std.proofs.lemmas.List.{map-set, length-map, drop-set, drop-set-lt}
use Rattle.code.specs.declared.units.Word.{Word}
use Rattle.receiver.specs.Cells.{row_of}
use Rattle.receiver.specs.Delivery.{numbers_in, Writes}
use Rattle.reception.specs.Worth.{Scores}
use Rattle.survivors.specs.Best.{Survivor}
use Rattle.survivors.specs.Rows.{Rows, back}
use Rattle.survivors.specs.Trace.{trace}
use Rattle.survivors.proofs.Traced.{row_enters}
use Rattle.trellis.specs.declared.Numbers.{Numbers}
use Rattle.trellis.specs.Words.{word_between, words_of}

-- The words of the labels up to row t, and behind them those from place d on, are all the words.
abbrev pub LeftAt : Numbers → (ℕ → ℕ → Survivor) → ℕ → ℕ → List Word → ℕ → ℕ → ℕ → List Word → Type 0
LeftAt n row symbols end before t d E now =
    (ss : List Scores) → length ss ≡ symbols → Rows n ss row
    → words_of n (trace n row t E) ++ drop d (numbers_in now) ≡ words_of n (trace n row symbols end) ++ drop (symbols - 1) (numbers_in before)

abbrev pub Left : Numbers → (ℕ → ℕ → Survivor) → ℕ → ℕ → List Word → ℕ → ℕ → List Word → Type 0
Left n row symbols end before t E now = LeftAt n row symbols end before t (t - 1) E now

-- One label more carries one word more.
pub words_push : (n : Numbers) (xs : List ℕ) (y z : ℕ) → words_of n (xs ++ (y ∷ z ∷ [])) ≡ words_of n (xs ++ (y ∷ [])) ++ (word_between n y z ∷ [])
words_push n [] y z = refl
words_push n (x ∷ []) y z = refl
words_push n (w ∷ x ∷ xs) y z = ap (λ (ws : List ℕ). word_between n w x ∷ ws) (words_push n (x ∷ xs) y z)

module _ (n : Numbers) (row : ℕ → ℕ → Survivor) where
  -- the words up to row t + 2, by those up to row t + 1
  words_more : (t E : ℕ) → (let z = (row (suc (suc t)) E).label in let y = (row (suc t) (back n E z)).label in words_of n (trace n row (suc (suc t)) E) ≡ words_of n (trace n row (suc t) (back n E z)) ++ (word_between n y z ∷ []))
  words_more t E =
      let z = (row (suc (suc t)) E).label in
      let y = (row (suc t) (back n E z)).label in
      let xs = trace n row t (back n (back n E z) y) in
      ap (words_of n) (append_assoc xs (y ∷ []) (z ∷ [])) ∙ words_push n xs y z

  module _ (symbols end : ℕ) (before : List Word) where
    step : (u E F : ℕ) (now : List Word) (w : Word) → suc u < symbols → u < length now → E < 2 ^ n.memory → (let z = (row (suc (suc u)) E).label in (back n E z < 2 ^ n.memory → F ≡ back n E z) → w.0 ≡ word_between n (row (suc u) F).label z → LeftAt n row symbols end before (suc (suc u)) (suc u) E now → LeftAt n row symbols end before (suc u) u F (set now u w))
    step u E F now w few room low F-is w-is inv ss long rows =
        let z = (row (suc (suc u)) E).label in
        let ks = numbers_in now in
        let f : F ≡ back n E z = F-is (row_enters n ss row rows (suc u) E (omega arith) low).1 in
        let within : u < length ks = let l = length-map now (λ (x : Word). x.0) in omega arith in
        let put : drop u (numbers_in (set now u w)) ≡ w.0 ∷ drop (suc u) ks = ap (drop u) (map-set (λ (x : Word). x.0) now u w) ∙ drop-set ks u w.0 within ∙ ap (λ (k : ℕ). w.0 ∷ drop k ks) (add-one u) in
        ap (λ (rest : List ℕ). words_of n (trace n row (suc u) F) ++ rest) (put ∙ ap (λ (x : ℕ). x ∷ drop (suc u) ks) w-is)
        ∙ ap (λ (G : ℕ). words_of n (trace n row (suc u) G) ++ (word_between n (row (suc u) G).label z ∷ drop (suc u) ks)) f
        ∙ sym (append_assoc (words_of n (trace n row (suc u) (back n E z))) (word_between n (row (suc u) (back n E z)).label z ∷ []) (drop (suc u) ks))
        ∙ ap (λ (ws : List ℕ). ws ++ drop (suc u) ks) (sym (words_more u E)) ∙ inv ss long rows

    pub left_none : Left n row symbols end before symbols end before
    left_none ss long rows = refl

    pub left_more : (t E F z y states : ℕ) (now : List Word) (w : Word) → states ≡ 2 ^ n.memory → 1 < t → t ≤ symbols → symbols - 1 ≤ length now → E < 2 ^ n.memory → z ≡ (row t E).label → (back n E z < states → F ≡ back n E z) → y ≡ (row (t - 1) F).label → w.0 ≡ word_between n y z → Left n row symbols end before t E now → Left n row symbols end before (t - 1) F (set now (t - 1 - 1) w)
    left_more t E F z y states now w states-are some few room low z-is F-is y-is w-is inv =
        let u = t - 1 - 1 in
        let one : t - 1 ≡ suc u = omega arith in
        let two : t ≡ suc (suc u) = omega arith in
        let here : z ≡ (row (suc (suc u)) E).label = z-is ∙ ap (λ (k : ℕ). (row k E).label) two in
        let there : y ≡ (row (suc u) F).label = y-is ∙ ap (λ (k : ℕ). (row k F).label) one in
        let left = subst (λ (k : ℕ). LeftAt n row symbols end before (suc (suc u)) k E now) one (subst (λ (k : ℕ). LeftAt n row symbols end before k (t - 1) E now) two inv) in
        let back_is = subst (λ (x : ℕ). back n E x < 2 ^ n.memory → F ≡ back n E x) here (λ h. F-is (subst (λ (k : ℕ). back n E z < k) (sym states-are) h)) in
        let word-is = w-is ∙ (λ i. word_between n (there i) (here i)) in
        subst (λ (k : ℕ). LeftAt n row symbols end before k u F (set now u w)) (sym one) (step u E F now w (omega arith) (omega arith) low back_is word-is left)

    -- at row 1 there is one label, and no word is left to write
    pub left_all : (t E : ℕ) (now : List Word) → 1 ≤ t → t ≤ 1 → Left n row symbols end before t E now → Writes n row symbols end before now
    left_all t E now some few inv =
        let e : t ≡ 1 = omega arith in subst (λ (k : ℕ). Left n row symbols end before k E now) e inv

-- Row t lies within the cells of all rows.
pub row_fits : (t symbols states room : ℕ) → t ≤ symbols → (symbols + 1) * states ≤ room → t * states + states ≤ room
row_fits t symbols states room h fits =
    let up = mul-le-mul_right states h in omega (arith, add-mul symbols 1 states, one-mul states)

-- A label that was read with the number of states under another name.
pub label_by_lem : (cs : List Survivor) (states states' t E x : ℕ) → states ≡ states' → x ≡ (row_of cs states t E).label → x ≡ (row_of cs states' t E).label
label_by_lem cs states states' t E x e h = h ∙ ap (λ (k : ℕ). (row_of cs k t E).label) e

pub rest_none : (d : ℕ) (before : List Word) → drop d before ≡ drop d before
rest_none d before = refl

-- What a write below place d leaves from there on.
pub rest_more : (d i : ℕ) (before now : List Word) (w : Word) → i < d → drop d now ≡ drop d before → drop d (set now i w) ≡ drop d before
rest_more d i before now w h e = drop-set-lt d now i w h ∙ e
