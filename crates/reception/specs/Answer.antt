-- What a receiver answers to a call.
use Rattle.std.specs.Prelude.{◌≡◌, ℕ, ◌-◌, Bool, false, cond, ◌⊎◌, List, [], ◌∷◌, length, ◌==◌}
use Rattle.reception.specs.Block.{Block, no_block, block, Call, opens, takes, tells, delivers, capacity, open_refusal, take_refusal, deliver_refusal}
use Rattle.reception.specs.Least.{PathOver, LeastWorth, Marks, Chosen}
use Rattle.reception.specs.Worth.{Scores, path_worth}
use Rattle.trellis.specs.declared.Numbers.{Numbers}
use Rattle.trellis.specs.Words.{words_of}

-- A refusal by its number; the symbols that the opened block holds; count, least worth and sole mark; count, sole mark and
-- the words written.
pub data Answer : Type 0 where
  refused : ℕ → Answer
  opened : ℕ → Answer
  taken : Answer
  told : ℕ → ℕ → Bool → Answer
  delivered : ℕ → Bool → List ℕ → Answer

-- The answer, or the refusal where there is one.
abbrev pub unless_refused : ℕ → Answer → Answer
unless_refused r a = cond (r == 0) a (refused r)

-- What tell answers once symbols are taken.
pub record Told (n : Numbers) (ss : List Scores) (a : Answer) : Type 0 where
  pub worth : ℕ
  pub sole : Bool
  pub least : LeastWorth n ss worth
  pub marks : Marks n ss worth sole
  pub says : a ≡ told (length ss) worth sole

-- What deliver answers where a path ends somewhere.
pub record Delivered (n : Numbers) (ss : List Scores) (a : Answer) : Type 0 where
  pub start : ℕ
  pub labels : List ℕ
  pub end : ℕ
  pub sole : Bool
  pub chosen : Chosen n ss start labels end
  pub marks : Marks n ss (path_worth n ss labels) sole
  pub says : a ≡ delivered (length ss - 1) sole (words_of n labels)

-- What deliver answers where no path ends anywhere.
pub record NoPath (n : Numbers) (ss : List Scores) (a : Answer) : Type 0 where
  pub none : (S : ℕ) (zs : List ℕ) → PathOver n ss S zs → ⊥
  pub says : a ≡ refused 24

abbrev pub TellAnswers : Block → Answer → Type 0
TellAnswers no_block a = a ≡ refused 21
TellAnswers (block n []) a = a ≡ told 0 0 false
TellAnswers (block n (s ∷ ss)) a = Told n (s ∷ ss) a

abbrev pub DeliverAnswers : ℕ → Block → Answer → Type 0
DeliverAnswers len no_block a = a ≡ refused 21
DeliverAnswers len (block n ss) a =
    cond (deliver_refusal (block n ss) len == 0) (Delivered n ss a ⊎ NoPath n ss a) (a ≡ refused (deliver_refusal (block n ss) len))

-- The answer a of a receiver of so many cells and this block to the call.
abbrev pub Answers : ℕ → Block → Call → Answer → Type 0
Answers cells b (opens n) a = a ≡ unless_refused (open_refusal cells n) (opened (capacity cells n))
Answers cells b (takes f ws) a = a ≡ unless_refused (take_refusal cells b f ws) taken
Answers cells b tells a = TellAnswers b a
Answers cells b (delivers len) a = DeliverAnswers len b a
