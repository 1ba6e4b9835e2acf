use Rattle.load_generator.proofs.requests.append_get_document.Goals as goal

-- the pieces are the request
pub returns : goal.returns
returns c =
    simp (
      c.as_slice.ensures,
      c.format.ensures.text,
      c.as_bytes.ensures.value,
      c.as_slice-2.ensures,
      c.format-2.ensures.text,
      c.as_bytes-2.ensures.value,
      c.as_slice-3.ensures,
    ) at c.append_all.ensures
