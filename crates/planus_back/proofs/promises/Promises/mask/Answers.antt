use Rattle.std.proofs.Common.{◌≡◌, ℕ, ◌+◌, max, ap, sym, ◌∙◌, List}
use Rattle.planus_back.specs.Promises.{Promise, greatest_alignment}
use Rattle.planus_back.specs.Requests.{Delay, DescribesAll}
use Rattle.planus_back.proofs.Lists.{mask_is_greatest, greatest_from}
use Rattle.planus_back.proofs.promises.Promises.mask.Goals as goal

greatest : (c : goal.After-self) (len : ℕ) (promises : List Promise) → DescribesAll c.args.self.now len promises
    → greatest_alignment 1 promises ≡ c.self.inside.mask + 1
greatest c len promises h =
    mask_is_greatest len c.args.self.now.delayed c.args.self.now.mask promises h ∙ ap (λ (v : Delay). v.mask + 1) (sym c.self.view_is)

pub returns-clause-greatest : goal.returns-clause-greatest
returns-clause-greatest c = greatest c

pub returns-clause-greatest_from : goal.returns-clause-greatest_from
returns-clause-greatest_from c = λ len least promises h positive.
    greatest_from least promises positive ∙ ap (λ x. max x least) (greatest c len promises h)
