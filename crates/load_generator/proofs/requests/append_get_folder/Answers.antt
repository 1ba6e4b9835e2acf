use Rattle.load_generator.proofs.requests.append_get_folder.Goals as goal

-- the pieces are the request
pub returns : goal.returns
returns c =
    simp (
      c.as_slice.ensures,
      c.format.ensures.text,
      c.as_bytes.ensures.value,
      c.as_slice-2.ensures,
    ) at c.append_all.ensures
