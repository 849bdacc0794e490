use Rattle.std.proofs.Common.{[], ◌∙◌, ap, sym, map}
use Rattle.text_grammar.specs.Resolving.{each, declared_after, variable_of, pair_name}
use Rattle.text_grammar.specs.View.{view_pairs}
use Rattle.text_file_reader.proofs.at_once.variables_at_once.Goals as goal

pub returns : goal.returns
returns c =
    record {
      items = view_pairs c.in_ok-pairs.pairs.items;
      are_read = c.in_ok-pairs.ensures;
      are_made = ap (λ l. each variable_of (view_pairs l)) (sym c.deref-2.ensures.value) ∙ c.in_ok-made.ensures;
      are_declared = ap (λ l. declared_after [] (map pair_name (view_pairs l))) (sym c.deref.ensures.value) ∙ c.in_ok-names.ensures;
    }
