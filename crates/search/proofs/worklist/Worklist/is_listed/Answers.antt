use Rattle.std.proofs.Common.{take, sym, refl, ◌∙◌, rules, tests}
use Rattle.std.proofs.lemmas.Iterator.{YieldsList-from_slice}
use Rattle.std.proofs.lemmas.Iterator.Search.{any_from_yields_List}
use Rattle.search.specs.Model.{same_item}
use Rattle.search.proofs.Listing.{listed_any}
use Rattle.search.proofs.worklist.Worklist.is_listed.Goals as goal

pub returns : goal.returns
returns g c =
    let A = g.M.Machine.meaning c.args.self.now.question.now in
    let eq = g.M.Machine.equal c.args.self.now.question.now in
    let row = take c.args.self.now.at.entered c.args.self.now.items.now in
    any_from_yields_List (λ y. same_item A eq y c.args.new.now) _ _ c.any.result c.any.ensures.ran (YieldsList-from_slice row (cc)) (λ x b q k. search (rules, tests))
    ∙ sym (listed_any A eq row c.args.new.now (λ y. same_item A eq y c.args.new.now) (λ y. refl))
