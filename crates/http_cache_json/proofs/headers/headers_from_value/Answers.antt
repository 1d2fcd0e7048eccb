-- The result for the members of an object, or their error, is the object's.
use Rattle.std.proofs.Common.{List, subst, sym}
use Rattle.std.specs.List.{AllZip}
use Rattle.std.proofs.lemmas.Result.{IfOk-weaker}
use Rattle.serde_json.specs.Find.{as_object}
use Rattle.serde_json.specs.View.{view, members_view}
use Rattle.http_cache_json.specs.HeaderObject.{Member, members_in, IsHeaderMember}
use Rattle.http_cache_json.proofs.SomeLemmas.{some_and, of_some}
use Rattle.http_cache_json.proofs.MemberLemmas.{members_in-view}
use Rattle.http_cache_json.proofs.headers.headers_from_value.Goals as goal

pub returns-in-Some-clause-found : goal.returns-in-Some-clause-found
returns-in-Some-clause-found c =
    let es = c.in-Some.members.now.entries in
    IfOk-weaker c.headers_from.result _ _
    (λ m (entries, zip, held). record {
      entries = entries;
      listed = some_and (as_object (view c.args.value.now)) (members_view es) (λ ms. AllZip IsHeaderMember
          (members_in ms) entries) c.in-Some.ensures
          (subst (λ (ms : List Member). AllZip IsHeaderMember ms entries) (sym (members_in-view es)) zip);
      held = held;
    })
    c.headers_from.ensures.found

pub returns-in-Some-clause-none : goal.returns-in-Some-clause-none
returns-in-Some-clause-none c = λ e h is.
    let es = c.in-Some.members.now.entries in
    let listed = of_some (as_object (view c.args.value.now)) (members_view es) (λ ms. AllZip IsHeaderMember
    (members_in ms) is.entries) c.in-Some.ensures is.listed in
    c.headers_from.ensures.none e is.entries (subst
    (λ (ms : List Member). AllZip IsHeaderMember ms is.entries) (members_in-view es) listed) h is.held
