use Rattle.std.proofs.Common.{◌++◌, ℕ, List, ap, ◌∙◌}
use Rattle.std.specs.Prelude.{map}
use Rattle.mb_model.specs.declared.region.RegionKey.{RegionKey}
use Rattle.mb_model.specs.declared.region.Secret.{Secret}
use Rattle.mb_model.specs.chains.Lines.{text_of}
use Rattle.mb_tools_shown.specs.StateShown.{secret_shown, key_shown, counts_shown}
use Rattle.mb_tools_shown.proofs.StateLemmas.{state_put}
use Rattle.mb_tools_shown.proofs.state.state_text.Goals as goal

pub returns : goal.returns
returns c =
    let state = c.args.state.now in
    let counts = c.put_counts.new.out.items in
    let layers = c.put_layers.new.out.items in
    let two = c.put_secrets.new.out.items in
    let three = c.put_secrets-2.new.out.items in
    let keys = c.put_keys.new.out.items in
    state_put c.args.pending state counts layers two three keys c.put_keys-2.new.out.items
    (c.in_ok-put_counts.ensures ∙ ap (λ (t : List ℕ). t ++ text_of (counts_shown c.args.pending state)) c.new-out.ensures.items)
    c.in_ok-put_layers.ensures
    (c.in_ok-put_secrets.ensures ∙ ap (λ (l : List Secret). layers ++ text_of (map (secret_shown 2) l)) c.as_slice.ensures)
    (c.in_ok-put_secrets-2.ensures ∙ ap (λ (l : List Secret). two ++ text_of (map (secret_shown 3) l)) c.as_slice-2.ensures)
    (c.in_ok-put_keys.ensures ∙ ap (λ (l : List RegionKey). three ++ text_of (map (key_shown 2) l)) c.as_slice-3.ensures)
    (c.in_ok-put_keys-2.ensures ∙ ap (λ (l : List RegionKey). keys ++ text_of (map (key_shown 3) l)) c.as_slice-4.ensures)
