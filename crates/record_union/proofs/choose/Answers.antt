-- `choose` meets its contract. Assumes nothing.
use Rattle.record_union.proofs.Joining.{choose-none, choose-joining, choose-own, choose-lower, choose-upper, choose-both}
use Rattle.record_union.proofs.choose.Goals as goal

pub returns-in_default-joining : goal.returns-in_default-joining
returns-in_default-joining g c = choose-none g.T.Element.key_of c.args.own.now c.args.joining.now c.in_default.len_below c.in_default-joining.len_below

pub returns-in_default : goal.returns-in_default
returns-in_default g c = choose-joining g.T.Element.key_of c.args.own.now c.args.joining.now c.in_default.len_below c.in-len1-up-joining.len_at_least c.y-item.is

pub returns-in_default-joining-2 : goal.returns-in_default-joining-2
returns-in_default-joining-2 g c = choose-own g.T.Element.key_of c.args.own.now c.args.joining.now c.in-len1-up.len_at_least c.x-item.is c.in_default-joining-2.len_below

pub returns-then-below : goal.returns-then-below
returns-then-below g c =
    choose-lower g.T.Element.key_of c.args.own.now c.args.joining.now c.in-len1-up.len_at_least c.x-item.is c.in-len1-up-joining-2.len_at_least c.y-item-2.is c.below.ensures c.if-below.true

pub returns-then-below-2 : goal.returns-then-below-2
returns-then-below-2 g c =
    choose-upper g.T.Element.key_of c.args.own.now c.args.joining.now c.in-len1-up.len_at_least c.x-item.is c.in-len1-up-joining-2.len_at_least c.y-item-2.is c.below.ensures c.if-below.false c.below-2.ensures c.if-below-2.true

pub returns : goal.returns
returns g c =
    choose-both g.T.Element.key_of c.args.own.now c.args.joining.now c.in-len1-up.len_at_least c.x-item.is c.in-len1-up-joining-2.len_at_least c.y-item-2.is c.below.ensures c.if-below.false c.below-2.ensures c.if-below-2.false
