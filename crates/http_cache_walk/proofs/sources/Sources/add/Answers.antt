-- A source is added under its target and its host; any other entry changes nothing.
use Rattle.std.proofs.Common.{◌∙◌, sym, Bor}
use Rattle.http_cache_recording.specs.declared.entry.Entry.{Entry}
use Rattle.http_cache_recording.specs.Entry.{entry_seen}
use Rattle.http_cache_walk.specs.Order.{sent_seen}
use Rattle.http_cache_walk.specs.Sources.{sources_seen}
use Rattle.http_cache_walk.proofs.SourcesLemmas.{put-seen, sources-next, sources-same}
use Rattle.http_cache_walk.proofs.sources.Sources.add.Goals as goal

pub returns-then-not-is_source : goal.returns-then-not-is_source
returns-then-not-is_source c = λ before holds.
    holds ∙ sym (sources-same before (sent_seen c.args.sent.now) (sym c.is_source.ensures ∙ c.if-not-is_source.true))

pub returns : goal.returns
returns c = λ before holds.
    let seen = λ (e : Bor Entry). entry_seen e.now in
    let entry = c.args.sent.now.entry in
    sources-next before (sent_seen c.args.sent.now) (sources_seen c.args.self.now) _
    (sym c.is_source.ensures ∙ c.if-not-is_source.false) holds
    (λ t. put-seen seen entry _ _ _ (rw (c.in_ok-from_str.ensures.ok, c.target-target.ensures) at (c.in_ok-put.ensures t)))
    (λ h. put-seen seen entry _ _ _
    (rw (c.in_ok-from_str-2.ensures.ok, c.host_of.ensures, c.target-target.ensures) at (c.in_ok-put-2.ensures h)))
