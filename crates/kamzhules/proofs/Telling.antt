-- What tell answers from C: the count is the struct's.
use Rattle.std.proofs.Common.{◌≡◌, ℕ, Bool, false, List, [], ◌∷◌, sym, ◌∙◌, subst, arith}
use Rattle.receiver.specs.declared.record.Progress.{Progress}
use Rattle.receiver.specs.Stands.{StandsBy}
use Rattle.reception.specs.Answer.{told, TellAnswers}
use Rattle.reception.specs.Block.{Block, no_block, block}
use Rattle.survivors.specs.Best.{Survivor}

same_count : (k w : ℕ) (m : Bool) (l v : ℕ) (n : Bool) → told k w m ≡ told l v n → k ≡ l
same_count k w m l v n e = cc

pub told-count : {K : Type 0} (says : K → Survivor) (cs : List K) (p : Progress) (b : Block) (k w : ℕ) (m : Bool) → StandsBy says cs p b → TellAnswers b (told k w m) → k ≡ p.count
told-count says cs p no_block k w m s a = let o : ◌≡◌ {A = ℕ} 0 1 = cc a in absurd (omega arith)
told-count says cs p (block n []) k w m s a = same_count k w m 0 0 false a ∙ sym s.1
told-count says cs p (block n (x ∷ xs)) k w m s a = same_count k w m _ a.worth a.sole a.says ∙ sym s.1

pub told_again : {K : Type 0} (says : K → Survivor) (cs : List K) (p : Progress) (count : ℕ) (b : Block) (k w : ℕ) (m : Bool) → p.count ≡ count → StandsBy says cs p b → TellAnswers b (told k w m) → TellAnswers b (told count w m)
told_again says cs p count b k w m e s a =
    let T : ℕ → Type 0 = λ (j : ℕ). TellAnswers b (told j w m) in subst T (told-count says cs p b k w m s a ∙ e) a
