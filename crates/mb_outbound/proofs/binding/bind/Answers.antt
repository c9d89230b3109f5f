use Rattle.std.proofs.Common.{inl, refl, rules}
use Rattle.mb_outbound.proofs.Bound.{means_used, means_kept_or_used, stores_use, keeps_or_stores, at_place, refused_as}
use Rattle.mb_outbound.proofs.binding.bind.Goals as goal

pub right_after-requires : goal.right_after-requires
right_after-requires g c = (c.in-Ok.ensures.used c.requires.held.region (at_place _ c.number.result g.L.Compartment.place c.number.ensures c.requires.held.holds)).has_use.left

pub returns-in-Err-NoKey : goal.returns-in-Err-NoKey
returns-in-Err-NoKey g c = record {
  bound = λ region has. refused_as region c.args.key c.next_use.new.room.other.items c.in-Err-NoKey.field-0-is (c.in-Err-NoKey.ensures.used region (at_place _ c.number.result g.L.Compartment.place c.number.ensures has));
  done = tt;
  either = λ contents holds. inl holds;
  means = λ none state means. tt;
  means_either = λ none state means. inl means;
  blank = tt;
  unwritten = (refl, refl);
  besides = search rules;
  ran = search rules;
  plans = search rules;
}

pub returns-in-Err-Spent : goal.returns-in-Err-Spent
returns-in-Err-Spent g c = record {
  bound = λ region has. refused_as region c.args.key c.next_use.new.room.other.items c.in-Err-Spent.field-0-is (c.in-Err-Spent.ensures.used region (at_place _ c.number.result g.L.Compartment.place c.number.ensures has));
  done = tt;
  either = λ contents holds. inl holds;
  means = λ none state means. tt;
  means_either = λ none state means. inl means;
  blank = tt;
  unwritten = (refl, refl);
  besides = search rules;
  ran = search rules;
  plans = search rules;
}

pub returns-in-Ok-store : goal.returns-in-Ok-store
returns-in-Ok-store g c =
    let stores = stores_use g.L.Compartment.place c.args.key _ _ c.next_use.new.room.other.items c.in-Ok.found g.met.L.Named.named
    (λ region has. c.in-Ok.ensures.used region (at_place _ c.number.result g.L.Compartment.place c.number.ensures has)) c.in-Ok-store.ensures.done in
    let either = keeps_or_stores g.L.Compartment.place c.args.key _ _ c.next_use.new.room.other.items c.in-Ok.found g.met.L.Named.named
    (λ region has. c.in-Ok.ensures.used region (at_place _ c.number.result g.L.Compartment.place c.number.ensures has)) c.store.ensures.either in
    record {
      bound = search rules;
      done = stores;
      either = either;
      means = λ none state means. means_used g.L.Compartment.place c.args.key _ _ g.met.L.Named.named c.store.ensures.ran.ran.sized none stores state means;
      means_either = λ none state means. means_kept_or_used g.L.Compartment.place c.args.key _ _ g.met.L.Named.named c.store.ensures.ran.ran.sized none either state means;
      blank = search rules;
      unwritten = tt;
      besides = search rules;
      ran = search rules;
      plans = search rules;
    }

pub returns-in-Err : goal.returns-in-Err
returns-in-Err g c =
    let either = keeps_or_stores g.L.Compartment.place c.args.key _ _ c.next_use.new.room.other.items c.in-Ok.found g.met.L.Named.named
    (λ region has. c.in-Ok.ensures.used region (at_place _ c.number.result g.L.Compartment.place c.number.ensures has)) c.store.ensures.either in
    record {
      bound = λ region has. (c.in-Ok.found, (c.in-Ok.ensures.used region (at_place _ c.number.result g.L.Compartment.place c.number.ensures has)).has_use);
      done = tt;
      either = either;
      means = λ none state means. tt;
      means_either = λ none state means. means_kept_or_used g.L.Compartment.place c.args.key _ _ g.met.L.Named.named c.store.ensures.ran.ran.sized none either state means;
      blank = tt;
      unwritten = tt;
      besides = search rules;
      ran = search rules;
      plans = search rules;
    }
