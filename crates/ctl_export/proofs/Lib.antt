mod ReadLaws
mod ExportLaws
