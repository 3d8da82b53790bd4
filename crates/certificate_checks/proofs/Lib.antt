mod Checked
mod Verdicts
