use Rattle.std.proofs.Common.{◌≡◌, ◌∙◌, ℕ, true, List, sym, subst, map}
use Rattle.std.specs.List.{list_all}
use Rattle.txn_programs.specs.declared.arguments.Call.{Call}
use Rattle.txn_programs.specs.Tree.{transaction_of}
use Rattle.text_file_reader.specs.Resolved.{parameters_of, is_wanted}
use Rattle.text_file_reader.proofs.at_once.runs_at_once.Goals as goal

pub returns : goal.returns
returns c =
    let parameters = map parameters_of (map transaction_of c.args.txs.now) in
    let are_wanted : list_all (λ (run : Call × ℕ). is_wanted parameters run.0) c.deref.result.now ≡ true = sym c.are_wanted.ensures ∙ c.if-not-are_wanted.false in
    record {
      items = c.in_ok-made.ensures.item;
      are_read = c.in_ok-made.ensures.is_read;
      are_made = c.in_ok-made.ensures.is_made;
      are_wanted = subst (λ (l : List (Call × ℕ)). list_all (λ (run : Call × ℕ). is_wanted parameters run.0) l ≡ true) c.deref.ensures.value are_wanted;
    }
