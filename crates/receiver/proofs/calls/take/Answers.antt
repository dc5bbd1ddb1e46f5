use Rattle.std.proofs.Common.{◌≡◌, ℕ, ◌+◌, ◌*◌, ◌^◌, ◌≤◌, List, [], ◌∷◌, ◌++◌, length, Some, Bor, sym, ap, ◌∙◌, subst, arith, length-append}
use Rattle.code.specs.declared.record.Code.{Code}
use Rattle.receiver.proofs.Standing.{open_is, standing, stands_again, take_more, takeable, row_room}
use Rattle.receiver.proofs.Taken.{extended_holds}
use Rattle.receiver.specs.Refusal.{take_refusal_at}
use Rattle.receiver.specs.Stands.{StandsBy}
use Rattle.receiver.specs.declared.record.Progress.{Progress}
use Rattle.reception.specs.Block.{after, takes}
use Rattle.reception.specs.Worth.{scores_of}
use Rattle.receiver.proofs.calls.take.Goals as goal

pub extend-requires-clause-room : goal.extend-requires-clause-room
extend-requires-clause-room g c =
    let count = c.args.progress.now.count in
    let cells = length c.args.cells.now in
    let t = takeable cells c.in_ok-code.code.numbers count (g.F.Front.meaning c.args.front.now) c.args.reading.now c.in_ok-reading.ensures.number in
    subst (λ (k : Code). (count + 2) * 2 ^ k.numbers.memory ≤ cells) (sym c.in_ok-reading.ensures.code) (row_room cells c.in_ok-code.code.numbers count t.room).0

pub returns-clause-stands : goal.returns-clause-stands
returns-clause-stands g c b s =
    let w = g.K.Kept.says in
    let meaning = g.F.Front.meaning in
    let r = c.in_ok-reading.reading in
    let told = c.in_ok-reading.ensures in
    let k = r.code in
    let n = k.numbers in
    let f = meaning r.front.now in
    let ws = r.words.now in
    let count = c.args.progress.now.count in
    let cs = c.args.cells.now in
    let cs' = c.extend.new.cells in
    let p : Progress = record { code = c.args.progress.now.code; count = count + 1 } in
    let why : ◌≡◌ {A = ℕ} 0 (take_refusal_at (length cs) n count f ws) = told.number ∙ (λ i. take_refusal_at (length cs) (sym told.code i).numbers count (meaning (sym told.front i).now) (sym told.words i).now) in
    let t = takeable (length cs) n count f ws why in
    let is : c.args.progress.now.code ≡ Some k = open_is c.args.progress.now.code c.in_ok-code.code c.in_ok-code.ensures ∙ ap (λ (x : Code). Some x) (sym told.code) in
    let o = standing w cs c.args.progress.now k b is s in
    let Stands : Bor g.row.F.Denot → Bor (List ℕ) → Type 0 = λ front words. StandsBy w cs' p (after (length cs) b (takes (meaning front.now) words.now)) in
    subst (λ (front : Bor g.row.F.Denot). Stands front c.args.reading) told.front
    (subst (λ (words : Bor (List ℕ)). Stands r.front words) told.words
    (rw (take_more (length cs) f ws n o.scores count b o.is o.counts why)
    (stands_again w cs' p k (o.scores ++ (scores_of f n.phases ws ∷ [])) is
    (omega (arith, o.counts, length-append o.scores (scores_of f n.phases ws ∷ [])))
    (extended_holds w cs cs' n o.scores count (scores_of f n.phases ws) o.counts o.holds c.extend.auto.cells t.room c.extend.ensures.kept c.extend.ensures.row c.extend.ensures.bound))))
