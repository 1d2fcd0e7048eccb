-- A text denotes at most one target.
use Rattle.std.proofs.Common.{◌≡◌, ℕ, List, []}
use Rattle.std.proofs.Props.{props}
use Rattle.std.specs.Prelude.{IsSome}
use Rattle.std.specs.Option.{ForSome, ForNone}
use mathlib.Core.HLevel.{is_prop→PathP}
use Rattle.http_uri.specs.declared.uri.Uri.{Uri}
use Rattle.http_uri.specs.Uri.{Spells, uri_scheme, uri_authority, uri_data}
use Rattle.http_uri.proofs.Theorems.{Spells_unique}

same_target : (u v : Uri)
    → uri_scheme u ≡ uri_scheme v → uri_authority u ≡ uri_authority v → uri_data u ≡ uri_data v → u ≡ v
same_target u v scheme authority kept =
    λ i. record {
      scheme = scheme i;
      authority = authority i;
      path_and_query = kept i;
      absolute =
          is_prop→PathP (λ j. ForSome (scheme j) (λ _. IsSome (authority j))) (λ j. hlevel props)
          u.absolute v.absolute i;
      authority_alone =
          is_prop→PathP (λ j. ForNone (scheme j) (ForSome (authority j) (λ _. kept j ≡ [])))
          (λ j. hlevel props) u.authority_alone v.authority_alone i;
    }

pub Spells-one_target : (text : List ℕ) (u v : Uri) → Spells text u → Spells text v → u ≡ v
Spells-one_target text u v h k =
    let same = Spells_unique text u v h k in same_target u v same.0 same.1 same.2
