use Rattle.std.proofs.Common.{◌≡◌, ◌<◌, ◌∙◌, ℕ, List, length, map, sym, ap, subst}
use Rattle.std.specs.List.{All, Contains}
use Rattle.std.proofs.lemmas.Result.{on_ok_weaker}
use Rattle.txn_programs.specs.declared.limits.TheConstants.{MAX_VALUES}
use Rattle.txn_evaluator.specs.declared.notes.Note.{Note}
use Rattle.txn_evaluator.specs.Notes.{AreInside}
use Rattle.book.specs.Written.{TellNoted, place_of, write_at}
use Rattle.book.proofs.Noting.{inside_more, places_inside, places_tell}
use Rattle.book.proofs.written.Written.list.Goals as goal

pub list_places-requires : goal.list_places-requires
list_places-requires c =
    subst (AreInside MAX_VALUES) (sym c.deref.ensures.value) (inside_more (length c.args.values.now) MAX_VALUES c.args.self.now.notes.items c.requires.few c.requires.inside)

-- the places as they were put in order
known_in_order : (n : ℕ) (notes read : List Note) (places ordered : List ℕ) → read ≡ notes → places ≡ map place_of read → AreInside n notes → (All (λ x. x < n) places → All (λ x. x < n) ordered) → All (λ x. x < n) ordered
known_in_order n notes read places ordered e are inside keeps =
    keeps (subst (λ (xs : List ℕ). All (λ x. x < n) xs) (sym (are ∙ ap (λ (ns : List Note). map place_of ns) e)) (places_inside n notes inside))

pub list_writes-requires : goal.list_writes-requires
list_writes-requires c =
    let n = length c.args.values.now in
    subst (λ (xs : List ℕ). All (λ x. x < n) xs) (sym c.deref-2.ensures.value)
    (known_in_order n c.args.self.now.notes.items c.deref.result.now c.list_places.new.places.items c.put_in_order.new.places.items c.deref.ensures.value c.in_ok-list_places.ensures c.requires.inside (c.put_in_order.ensures.known n))

pub returns-clause-listed : goal.returns-clause-listed
returns-clause-listed c =
    let notes = c.args.self.now.notes.items in
    let m = c.args.values.now in
    let n = length m in
    let ordered = c.put_in_order.new.places.items in
    let are : c.list_places.new.places.items ≡ map place_of notes = c.in_ok-list_places.ensures ∙ ap (λ (ns : List Note). map place_of ns) c.deref.ensures.value in
    let noted : (x : ℕ) → Contains (map place_of notes) x → Contains ordered x = λ x h.
    c.put_in_order.ensures.all x (subst (λ (xs : List ℕ). Contains xs x) (sym are) h) in
    let known = known_in_order n notes c.deref.result.now c.list_places.new.places.items ordered c.deref.ensures.value c.in_ok-list_places.ensures c.requires.inside (c.put_in_order.ensures.known n) in
    let told = places_tell notes m ordered c.put_in_order.ensures.ascending known noted in
    on_ok_weaker c.list_writes.result
    (λ e. subst (TellNoted notes m) (sym (e ∙ ap (λ (xs : List ℕ). map (write_at m) xs) c.deref-2.ensures.value)) told) c.list_writes.ensures
