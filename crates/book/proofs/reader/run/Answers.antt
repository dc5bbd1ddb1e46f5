use Rattle.std.proofs.Common.{take, ◌∙◌}
use Rattle.std.proofs.lemmas.Iterator.{YieldsList-from_slice, YieldsList-from_take}
use Rattle.std.proofs.lemmas.Iterator.Consumers.{YieldsList-at, YieldsList-from_copied, count_from_yields_List}
use Rattle.std.proofs.lemmas.Iterator.Search.{YieldsList-from_take_while}
use Rattle.std.proofs.lemmas.List.Folds.{length-prefix_len}
use Rattle.book.proofs.reader.run.Goals as goal

pub returns-clause-value : goal.returns-clause-value
returns-clause-value g c = λ test decides.
    let bytes = YieldsList-from_copied (YieldsList-at c.copied.ensures.source (YieldsList-from_slice c.args.text.now cc)) in
    let first = YieldsList-from_take c.args.most (YieldsList-at c.take.ensures.source bytes) c.take.ensures.count in
    let kind = YieldsList-from_take_while _ test (YieldsList-at c.take_while.ensures.source first) c.take_while.ensures.closure c.take_while.ensures.done decides in
    count_from_yields_List c.take_while.result c.count.result c.count.ensures.ran kind ∙ length-prefix_len test (take c.args.most c.args.text.now)
