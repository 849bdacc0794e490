-- How a program is stored in a model's value: as trees of numbers that give it back.
use Rattle.std.specs.Prelude.{ℕ, List, refl}
use Rattle.std.specs.Coded.{Coded, code_by, coded×, coded_ℕ, coded_list}
use Rattle.txn_programs.specs.Tree.{Expression, Condition, Statement, Program}
use Rattle.txn.specs.Codes.{coded_expression, coded_condition, coded_statement}

abbrev pub coded_program : Coded Program
coded_program =
    code_by (List ℕ × (Statement × (Expression × List Condition))) (coded× (coded_list coded_ℕ) (coded× coded_statement (coded× coded_expression (coded_list coded_condition))))
    (λ t. (t.name, (t.body, (t.result, t.always)))) (λ p. record { name = p.0; body = p.1.0; result = p.1.1.0; always = p.1.1.1 }) (λ _. refl)
