mod PutLwobPolygon
mod PutLwo2Polygon
mod PutEntries
