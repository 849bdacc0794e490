-- The names of parameters, as bytes and as texts.
use Rattle.std.proofs.Common.{◌≡◌, ◌&&◌, List, length, map, nat_le, String, Global, string_bytes, refl}
use Rattle.std.specs.List.{list_all}
use Rattle.std.proofs.lemmas.List.Folds.{list_all-map}
use Rattle.std.proofs.lemmas.List.{length-map}
use Rattle.txn_programs.specs.Names.{is_name}
use Rattle.txn_programs.specs.Limits.{is_short, most_parameters}

pub params_formed : (params : List (String Global)) → list_all is_name (map string_bytes params) ≡ list_all (λ name. is_name (string_bytes name)) params
params_formed params = list_all-map is_name string_bytes params

pub params_are_short : (params : List (String Global)) → (nat_le (length (map string_bytes params)) most_parameters && list_all is_short (map string_bytes params))
    ≡ (nat_le (length params) most_parameters && list_all (λ name. is_short (string_bytes name)) params)
params_are_short params = rw (length-map params string_bytes, list_all-map is_short string_bytes params) refl
