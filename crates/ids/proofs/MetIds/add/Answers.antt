use native.Mathlib.Omega.{arith}
use mathlib.Core.Path.{◌∙◌}
use lib.ListN.{length-set}
use Rattle.ids.proofs.LinkLaws.{links_more}
use Rattle.ids.proofs.MetIds.add.Goals as goal

pub invariant_of-self : goal.invariant_of-self
invariant_of-self c =
    let ids = c.args.self.now in
    record {
      fits = (omega (arith, c.requires), length-set ids.keys ids.count c.args.k ∙ ids.fits.1);
      linked = rw (c.link.ensures.0, c.link.ensures.1) (links_more ids.keys ids.links ids.heads ids.count c.args.k (omega (arith, c.requires, ids.fits.1)) ids.fits.1 ids.linked);
    }
