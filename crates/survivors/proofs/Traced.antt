-- The way back through the rows stays at states and labels of the code, and looks at nothing else.
use Rattle.std.proofs.Common.{◌≡◌, ℕ, zero, suc, ◌^◌, ◌<◌, ◌≤◌, List, [], ◌∷◌, ◌++◌, length, refl, ap, ◌∙◌, add-one, arith}
use lib.Seq.{append_snoc}
use Rattle.std.proofs.lemmas.List.{length_push}
use Rattle.reception.specs.Worth.{Scores}
use Rattle.survivors.specs.Best.{Survivor}
use Rattle.survivors.specs.Rows.{back, Enters, Rows}
use Rattle.survivors.specs.Trace.{trace, trace_start}
use Rattle.survivors.proofs.Ends.{Ends, ends_push}
use Rattle.trellis.specs.declared.Numbers.{Numbers}

-- One label for each row.
pub length-trace : (n : Numbers) (row : ℕ → ℕ → Survivor) (k E : ℕ) → length (trace n row k E) ≡ k
length-trace n row zero E = refl
length-trace n row (suc k) E =
    let z = (row (suc k) E).label in
    length_push (trace n row k (back n E z)) z ∙ add-one _ ∙ ap suc (length-trace n row k (back n E z))

-- One step of the way back: the label is put before those that were read.
pub trace_more : (n : Numbers) (row : ℕ → ℕ → Survivor) (k E : ℕ) (read : List ℕ) → trace n row (suc k) E ++ read ≡ trace n row k (back n E (row (suc k) E).label) ++ ((row (suc k) E).label ∷ read)
trace_more n row k E read = append_snoc (trace n row k (back n E (row (suc k) E).label)) (row (suc k) E).label read

module _ (n : Numbers) (ss : List Scores) (row : ℕ → ℕ → Survivor) (rows : Rows n ss row) where
  -- Each label in a row is one of the code's, and so is the state to which it leads back.
  pub row_enters : (k E : ℕ) → k < length ss → E < 2 ^ n.memory → Enters n E (row (suc k) E).label
  row_enters k E h e = (rows.follows k h E e).inside

  -- The way back is a path.
  pub traced : (k E : ℕ) → k ≤ length ss → E < 2 ^ n.memory → Ends n k (trace_start n row k E) E (trace n row k E)
  traced zero E h e = record { state = e; labels = tt; long = refl; leads = refl }
  traced (suc k) E h e =
      let z = (row (suc k) E).label in
      let in' = row_enters k E h e in
      ends_push E z in'.0 (traced k (back n E z) (omega arith) in'.1)

  -- Rows whose labels agree at the states of the code, from row 1 on, have the same way back.
  pub trace-same : (row' : ℕ → ℕ → Survivor) (k : ℕ) → ((t E : ℕ) → t < k → E < 2 ^ n.memory → (row (suc t) E).label ≡ (row' (suc t) E).label) → k ≤ length ss → (E : ℕ) → E < 2 ^ n.memory → (trace n row k E ≡ trace n row' k E) × (trace_start n row k E ≡ trace_start n row' k E)
  trace-same row' zero same h E e = (refl, refl)
  trace-same row' (suc k) same h E e =
      let z = (row (suc k) E).label in
      let here = same k E (omega arith) e in
      let before = trace-same row' k (λ t F l. same t F (omega arith)) (omega arith) (back n E z) (row_enters k E h e).1 in
      (ap (λ (zs : List ℕ). zs ++ (z ∷ [])) before.0 ∙ ap (λ (y : ℕ). trace n row' k (back n E y) ++ (y ∷ [])) here, before.1 ∙ ap (λ (y : ℕ). trace_start n row' k (back n E y)) here)
