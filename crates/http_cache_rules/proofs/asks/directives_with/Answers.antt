-- One more piece can ask for no-cache, and set seconds that no earlier piece has set.
use Rattle.std.proofs.Common.{◌≡◌, ◌||◌, codes, sym, ap, ◌∙◌, bytes_eq}
use Rattle.std.specs.List.{list_any}
use Rattle.http_cache_fields.specs.Directives.{name_of}
use Rattle.http_cache_rules.proofs.AskLemmas.{named-next}
use Rattle.http_cache_rules.proofs.asks.directives_with.Goals as goal
use Rattle.http_cache_rules.proofs.asks.directives_with.Goals.{then-asked, else-asked}

pub returns : goal.returns
returns c = λ ps asked.
    let p = c.args.piece.now in
    let was = list_any (λ q. bytes_eq (codes "no-cache") (name_of q)) ps in
    let named : c.if-asked.result ≡ (was || bytes_eq (codes "no-cache") (name_of p)) = elim c.if-asked.branch [
      | then-asked w ↦ w.result-is ∙ w.if-asked.true
          ∙ ap (λ b. b || bytes_eq (codes "no-cache") (name_of p)) (sym w.if-asked.true ∙ ap (λ a. a.no_cache) asked)
      | else-asked w ↦ w.result-is ∙ w.is_same_name.ensures
          ∙ ap (bytes_eq (codes "no-cache")) c.split_piece.ensures.name
          ∙ ap (λ b. b || bytes_eq (codes "no-cache") (name_of p)) (sym w.if-asked.false ∙ ap (λ a. a.no_cache) asked)
    ] in
    (λ i. record {
      no_cache = (named ∙ sym (named-next (codes "no-cache") ps p)) i;
      max_age =
          c.said_with.ensures ps p (ap (λ a. a.max_age) asked)
          c.split_piece.ensures.name c.split_piece.ensures.value i;
      min_fresh =
          c.said_with-2.ensures ps p (ap (λ a. a.min_fresh) asked)
          c.split_piece.ensures.name c.split_piece.ensures.value i;
      max_stale =
          c.said_with-3.ensures ps p (ap (λ a. a.max_stale) asked)
          c.split_piece.ensures.name c.split_piece.ensures.value i;
      stale_if_error =
          c.said_with-4.ensures ps p (ap (λ a. a.stale_if_error) asked)
          c.split_piece.ensures.name c.split_piece.ensures.value i;
    })
