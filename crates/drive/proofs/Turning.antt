-- Turns one after the other.
use Rattle.std.proofs.Common.{◌≡◌, ℕ, ◌+◌, ◌%◌, sym, ap, ◌∙◌, add-one}
use Rattle.server.specs.Kind.{Kind}
use Rattle.run.specs.Machine.{Machine, offered, ticked, fetched}
use Rattle.drive.specs.Turns.{offer_value, tick_value, fetch_value, summed, turn_value, turned, after_turns, sum_turns}

module _ {k : Kind} where
  -- the three calls of a turn, and the states between them
  pub turn_value_is : (line amount : ℕ) (m m1 m2 : Machine k) (o t f : ℕ) → o ≡ offer_value (offered line amount m).0 → m1 ≡ (offered line amount m).1
      → t ≡ tick_value (ticked m1).0 → m2 ≡ (ticked m1).1 → f ≡ fetch_value (fetched m2).0 → o + t + f ≡ turn_value line amount m
  turn_value_is line amount m m1 m2 o t f o_is m1_is t_is m2_is f_is =
      let t_is' = t_is ∙ ap (λ z. tick_value (ticked z).0) m1_is in
      let m2_is' = m2_is ∙ ap (λ z. (ticked z).1) m1_is in
      let f_is' = f_is ∙ ap (λ z. fetch_value (fetched z).0) m2_is' in
      ap (λ z. z + t + f) o_is
      ∙ ap (λ z. offer_value (offered line amount m).0 + z + f) t_is'
      ∙ ap (λ z. offer_value (offered line amount m).0 + tick_value (ticked (offered line amount m).1).0 + z) f_is'

  pub turn_after : (line amount : ℕ) (m m1 m2 m3 : Machine k) → m1 ≡ (offered line amount m).1 → m2 ≡ (ticked m1).1 → m3 ≡ (fetched m2).1 → m3 ≡ turned line amount m
  turn_after line amount m m1 m2 m3 m1_is m2_is m3_is = m3_is ∙ ap (λ z. (fetched z).1) (m2_is ∙ ap (λ z. (ticked z).1) m1_is)

  -- one turn more
  pub after_more : (lines amount i : ℕ) (m a b : Machine k) → a ≡ after_turns lines amount m i → b ≡ turned (i % (lines + 1)) amount a → b ≡ after_turns lines amount m (i + 1)
  after_more lines amount i m a b a_is b_is =
      b_is ∙ ap (turned (i % (lines + 1)) amount) a_is ∙ ap (after_turns lines amount m) (sym (add-one i))

  pub sum_more : (lines amount i : ℕ) (m a : Machine k) (sum x next : ℕ) → sum ≡ sum_turns lines amount m i → a ≡ after_turns lines amount m i
      → x ≡ turn_value (i % (lines + 1)) amount a → next ≡ summed sum x → next ≡ sum_turns lines amount m (i + 1)
  sum_more lines amount i m a sum x next sum_is a_is x_is next_is =
      next_is ∙ ap (λ z. summed z x) sum_is
      ∙ ap (summed (sum_turns lines amount m i)) (x_is ∙ ap (turn_value (i % (lines + 1)) amount) a_is)
      ∙ ap (sum_turns lines amount m) (sym (add-one i))
